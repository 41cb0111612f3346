-- `check_response::agreement::path_misses` meets its contract.
use Rattle.check_response.specs.Check.{path_misses}
use Rattle.check_response.proofs.agreement.path_misses.Goals as goal

pub value32-root-requires : goal.value32-root-requires
value32-root-requires c =
    let s = c.requires in
    rw c.value_of.ensures (s.srep-frame, s.rootv-long)

pub returns : goal.returns
unfolding path_misses
returns c =
    rw (
      c.leads.ensures,
      c.value_of-2.ensures,
      c.number32.ensures,
      c.leaf.ensures,
      c.value32-root.ensures,
      c.value_of.ensures,
    )
