use mathlib.Core.Path.{◌∙◌, refl}
use native.Mathlib.Omega.{arith}
use borrow.Author.Rules.{rules}
use lib.ListN.{length}
use Rattle.std.proofs.lemmas.Iterator.{YieldsList-from_range}
use Rattle.std.proofs.lemmas.Iterator.Search.{any_from_yields_List}
use Rattle.list_address.specs.Address.{divides_at, is_address}
use Rattle.laws.proofs.Ranges.{range_somewhere}
use Rattle.list_address.proofs.address.is_address.Goals as goal

pub returns : goal.returns
unfolding is_address
returns c =
    let n = length c.args.x.now in
    any_from_yields_List (divides_at c.args.x.now) _ _ _ c.any.ensures.ran (YieldsList-from_range 0 n n refl (omega arith))
    (λ x b q k. search rules)
    ∙ range_somewhere (divides_at c.args.x.now) n
