-- `capi::listing::tb_read_servers` meets its contract.
use mathlib.Core.Path.{ap, ◌∙◌}
use Rattle.c_lists.specs.Listing.{tb_servers}
use Rattle.capi.proofs.Numbers.{servers-code}
use borrow.Author.Rules.{rules}
use Rattle.capi.proofs.listing.tb_read_servers.Goals as goal

pub returns : goal.returns
returns c =
    let called = c.read_servers in
    let is = c.into.ensures in record { value = is ∙ ap tb_servers called.ensures.value; out_after = rw (is, servers-code called.result) called.ensures.out_after }
