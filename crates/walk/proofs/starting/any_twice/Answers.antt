-- `walk::starting::any_twice` meets its contract.
use mathlib.Core.Path.{◌∙◌, refl}
use native.Mathlib.Omega.{arith}
use borrow.Author.Rules.{rules}
use Rattle.std.proofs.lemmas.Iterator.{YieldsList-from_range}
use Rattle.std.proofs.lemmas.Iterator.Search.{any_from_yields_List}
use Rattle.laws.proofs.Ranges.{range_somewhere}
use Rattle.walk.specs.Starting.{met_before, twice}
use Rattle.walk.proofs.starting.any_twice.Goals as goal

pub returns : goal.returns
unfolding twice
returns c =
    let keys = c.args.keys.now in
    any_from_yields_List (met_before keys) _ _ _ c.any.ensures.ran (YieldsList-from_range 0 c.args.n c.args.n refl (omega arith))
    (λ x b q k. search rules)
    ∙ range_somewhere (met_before keys) c.args.n
