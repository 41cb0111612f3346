-- `capi::listing::tb_list_source` meets its contract.
use mathlib.Core.Path.{ap, ◌∙◌}
use Rattle.c_packets.specs.Writing.{tb_wrote}
use Rattle.capi.proofs.Numbers.{part-code}
use borrow.Author.Rules.{rules}
use Rattle.capi.proofs.listing.tb_list_source.Goals as goal

pub returns : goal.returns
returns c =
    let called = c.list_source in
    let is = c.into.ensures in record { value = is ∙ ap tb_wrote called.ensures.value; out_after = rw (is, part-code called.result) called.ensures.out_after }
