-- `check_reuse::same_dele` meets its contract: the derived `==` compares the fields in their order.
use Prim.Native.Nat.{ℕ}
use mathlib.Core.Bool.{Bool, true, false, cond, ◌&&◌}
use mathlib.Core.List.{List, [], ◌∷◌}
use mathlib.Core.Path.{◌≡◌, refl, ap, ◌∙◌}
use lib.Dec.{eqb}
use Rattle.laws.specs.Same.{same}
use Rattle.laws.proofs.Same.{pointwise_same}
use Rattle.check_reuse.specs.Reuse.{same_dele}
use Rattle.check_reuse.proofs.same_dele.Goals as goal

last-first : (a b c : Bool) → (a && (b && c)) ≡ (b && (c && a))
last-first true true true = refl
last-first true true false = refl
last-first true false c = refl
last-first false true true = refl
last-first false true false = refl
last-first false false c = refl

pub returns : goal.returns
unfolding same_dele
returns c =
    let a = c.args.first in
    let b = c.args.second in
    c.eq.ensures
    ∙ ap (λ t. t && (eqb a.mint b.mint && eqb a.maxt b.maxt)) (pointwise_same a.pubk b.pubk)
    ∙ last-first (same a.pubk b.pubk) (eqb a.mint b.mint) (eqb a.maxt b.maxt)
