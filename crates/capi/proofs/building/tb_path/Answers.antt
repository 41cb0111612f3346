-- `capi::building::tb_path` meets its contract.
use mathlib.Core.Path.{ap, ◌∙◌}
use Rattle.c_packets.specs.Building.{tb_placed}
use Rattle.capi.proofs.Numbers.{path-code}
use borrow.Author.Rules.{rules}
use Rattle.capi.proofs.building.tb_path.Goals as goal

pub returns : goal.returns
returns c =
    let called = c.path in
    let is = c.into.ensures in record { value = is ∙ ap tb_placed called.ensures.value; out_after = rw (is, path-code called.result) called.ensures.out_after }
