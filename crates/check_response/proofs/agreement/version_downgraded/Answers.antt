-- `check_response::agreement::version_downgraded` meets its contract.
use Prim.Native.Nat.{ℕ}
use mathlib.Core.Path.{◌≡◌, ap, ◌∙◌}
use mathlib.Core.List.{List}
use Rattle.wire_message.specs.Tags.{VERS}
use Rattle.wire_message.specs.Values.{value_of}
use Rattle.wire_packet.specs.Response.{vers_in}
use Rattle.check_response.specs.Check.{version_downgraded}
use borrow.Author.Rules.{rules}
use Rattle.check_response.proofs.agreement.version_downgraded.Goals as goal

pub value_of-requires : goal.value_of-requires
value_of-requires c = rw c.value_of-srep.ensures (search rules)

pub returns : goal.returns
unfolding version_downgraded
returns c =
    let vers : c.value_of.result.now ≡ vers_in c.args.b.now =
    c.value_of.ensures ∙ ap (λ (m : List ℕ). value_of m VERS) c.value_of-srep.ensures in
    rw (c.downgrades_to.ensures, vers, c.value_of-2.ensures, c.srep_version.ensures)
