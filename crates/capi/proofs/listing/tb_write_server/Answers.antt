-- `capi::listing::tb_write_server` meets its contract.
use mathlib.Core.Path.{ap, ◌∙◌}
use Rattle.c_packets.specs.Writing.{tb_wrote}
use Rattle.capi.proofs.Numbers.{listing-code}
use borrow.Author.Rules.{rules}
use Rattle.capi.proofs.listing.tb_write_server.Goals as goal

pub returns : goal.returns
returns c =
    let called = c.write_server in
    let is = c.into.ensures in record { value = is ∙ ap tb_wrote called.ensures.value; out_after = rw (is, listing-code called.result) called.ensures.out_after }
