-- `capi::writing::tb_write_request` meets its contract.
use mathlib.Core.Path.{ap, ◌∙◌}
use Rattle.c_packets.specs.Writing.{tb_wrote}
use borrow.Author.Rules.{rules}
use Rattle.capi.proofs.writing.tb_write_request.Goals as goal

pub returns : goal.returns
returns c =
    let e = c.write_request.ensures in
    let is = c.into.ensures in record { value = is ∙ ap tb_wrote e.value; out_after = rw is e.out_after }
