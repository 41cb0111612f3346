-- From a flag that was found true or false to what it says.
use mathlib.Core.Path.{◌≡◌, refl, sym, subst, ◌∙◌}
use mathlib.Core.Bool.{Bool, true, false, not}
use Prim.Native.Nat.{ℕ, ◌<◌}
use native.Mathlib.Nat.{not-le_of_lt}
use lib.Dec.{T, ltb}
use borrow.Author.Tests.{ltb-true, ltb-false, lt-ltb, le-ltb, not-true, not-false}
use native.Mathlib.Omega.{by_contra}
use Rattle.pile_runs.specs.Told.{Tells}

-- the flag says whether P holds, and was found true, or false
pub told-true : {P : Type 0} (r : Bool) → Tells r P → r ≡ true → P
told-true {P} r t e = subst (λ (b : Bool). Tells b P) e t

pub told-false : {P : Type 0} (r : Bool) → Tells r P → r ≡ false → P → ⊥
told-false {P} r t e = subst (λ (b : Bool). Tells b P) e t

-- the flag r is the test b, and was found true, or false
pub is_true : {r b : Bool} → r ≡ b → r ≡ true → T b
is_true e t = subst T (sym t ∙ e) tt

pub is_false : {r b : Bool} → r ≡ b → r ≡ false → T b → ⊥
is_false e t h = subst T (sym e ∙ t) h

-- the same where `not r` was found false, or true
pub not-is-true : {r b : Bool} → r ≡ b → not r ≡ false → T b
not-is-true {r} e t = is_true e (not-false r t)

pub not-is-false : {r b : Bool} → r ≡ b → not r ≡ true → T b → ⊥
not-is-false {r} e t = is_false e (not-true r t)

-- the flag r is the test b, which holds exactly where P does: so r says whether P holds
pub tells-test : (P : Type 0) (r b : Bool) → r ≡ b → (T b → P) → (P → T b) → Tells r P
tells-test P true b e to back = to (is_true e refl)
tells-test P false b e to back = λ p. is_false e refl (back p)

-- x < y and u < v are the same test where each follows from the other
pub ltb-same : (x y u v : ℕ) → (x < y → u < v) → (u < v → x < y) → ltb x y ≡ ltb u v
ltb-same x y u v to back = go (ltb x y) refl
  where
    go : (b : Bool) → ltb x y ≡ b → b ≡ ltb u v
    go true e = sym (lt-ltb u v (to (ltb-true x y e)))
    go false e = sym (le-ltb u v (by_contra v u λ l. not-le_of_lt (back l) (ltb-false x y e)))
