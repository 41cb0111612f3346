-- `capi::listing::tb_server_address` meets its contract.
use mathlib.Core.Path.{ap, ◌∙◌}
use Rattle.c_lists.specs.Listing.{tb_addressed}
use Rattle.capi.proofs.Numbers.{addressed-code}
use borrow.Author.Rules.{rules}
use Rattle.capi.proofs.listing.tb_server_address.Goals as goal

pub returns : goal.returns
returns c =
    let called = c.server_address in
    let is = c.into.ensures in record { value = is ∙ ap tb_addressed called.ensures.value; out_after = rw (is, addressed-code called.result) called.ensures.out_after }
