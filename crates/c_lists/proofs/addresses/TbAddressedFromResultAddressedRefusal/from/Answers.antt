-- A `TbAddressed` of an address meets its contract.
use Rattle.std.specs.Prelude.{Ok, Result}
use mathlib.Core.Path.{◌≡◌, sym, ap}
use Rattle.refusal.specs.declared.Refusal.{Refusal}
use Rattle.list_parts.specs.declared.Addressed.{Addressed}
use Rattle.list_parts.specs.declared.Addressed.TheVariants as addressed
use Rattle.c_lists.specs.Listing.{tb_addressed}
use borrow.Author.Rules.{rules}
use Rattle.c_lists.proofs.addresses.TbAddressedFromResultAddressedRefusal.from.Goals as goal

pub returns-in-Ok-Tcp : goal.returns-in-Ok-Tcp
returns-in-Ok-Tcp c =
    let w : Result Addressed Refusal = Ok (addressed.Tcp c.in-Ok-Tcp.n) in
    let e : c.args.a ≡ w = search rules in
    sym (ap tb_addressed e)
