-- `walk::starting::met_before` meets its contract.
use mathlib.Core.Path.{◌∙◌, refl}
use mathlib.Core.Bool.{Bool}
use mathlib.Core.List.{List}
use Prim.Native.Nat.{ℕ}
use native.Mathlib.Omega.{arith}
use borrow.Author.Rules.{rules}
use Rattle.std.proofs.lemmas.Iterator.{YieldsList-from_range}
use Rattle.std.proofs.lemmas.Iterator.Search.{any_from_yields_List}
use Rattle.laws.proofs.Ranges.{range_somewhere}
use Rattle.laws.specs.Same.{same}
use Rattle.walk.specs.State.{key_at}
use Rattle.walk.specs.Starting.{met_before}
use Rattle.walk.proofs.starting.met_before.Goals as goal

pub returns : goal.returns
unfolding met_before
returns c =
    let keys : List ℕ = c.args.keys.now in
    let j : ℕ = c.args.j in
    let one : (ℕ → Bool) = λ i. same (key_at keys i) (key_at keys j) in
    any_from_yields_List one _ _ _ c.any.ensures.ran (YieldsList-from_range 0 j j refl (omega arith))
    (λ x b q k. search rules)
    ∙ range_somewhere one j
