use mathlib.Core.Path.{◌∙◌, refl}
use native.Mathlib.Omega.{arith}
use lib.ListN.{length}
use borrow.Author.Rules.{rules}
use Rattle.std.proofs.lemmas.Iterator.{YieldsList-from_range}
use Rattle.std.proofs.lemmas.Iterator.Search.{all_from_yields_List}
use Rattle.list_address.specs.Https.{clean_at, is_clean}
use Rattle.laws.proofs.Ranges.{range_nowhere}
use Rattle.list_address.proofs.https.is_clean.Goals as goal

pub returns : goal.returns
unfolding is_clean
returns c =
    let n = length c.args.s.now in
    all_from_yields_List (clean_at c.args.s.now) _ _ _ c.all.ensures.ran (YieldsList-from_range 0 n n refl (omega arith))
    (λ x b q k. search rules)
    ∙ range_nowhere (clean_at c.args.s.now) n
