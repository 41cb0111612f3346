-- Laws of what is left of a buffer's room.
use Rattle.std.specs.Prelude.{None, Option, Some}
use Prim.Native.Nat.{ℕ, suc, ◌+◌, ◌-◌, ◌≤◌, ◌<◌}
use mathlib.Core.Path.{◌≡◌, refl, sym, ◌∙◌, ap}
use mathlib.Core.Bool.{Bool, true, false}
use native.Mathlib.Omega.{arith, by_contra}
use native.Mathlib.Nat.{le_of_suc-le-suc}
use lib.Dec.{ltb}
use borrow.Author.Tests.{lt-ltb, le-ltb, ltb-true, ltb-false}
use Rattle.std.specs.Option.{SomeIff}
use Rattle.laws.specs.Pick.{pick}
use Rattle.json_quote.specs.Room.{spent}

-- the branches of code, which has the room as x
module _ {x : Option ℕ} (n : ℕ) where
  pub spent-short : {left : ℕ} → x ≡ Some left → left < n → None ≡ spent x n
  unfolding spent pick
  spent-short {left} e h = rw e (simp (lt-ltb left n h))

  pub spent-left : {left : ℕ} → x ≡ Some left → n ≤ left → Some (left - n) ≡ spent x n
  unfolding spent pick
  spent-left {left} e h = rw e (simp (le-ltb left n h))

  pub spent-none : x ≡ None → None ≡ spent x n
  unfolding spent
  spent-none e = rw e refl

  -- by what `checked_sub` answers
  pub spent-checked : (r : Option ℕ) {left : ℕ} → x ≡ Some left → SomeIff r (n ≤ left) (left - n) → r ≡ spent x n
  spent-checked (Some m) e h = ap Some h.1 ∙ spent-left e h.0
  spent-checked None {left} e h = spent-short e (by_contra (suc left) n (λ z. h (le_of_suc-le-suc z)))

-- one piece after the other
pub spent-sum : (x : Option ℕ) (m n : ℕ) → spent (spent x m) n ≡ spent x (m + n)
unfolding spent pick
spent-sum None m n = refl
spent-sum (Some k) m n = by (ltb k m) refl
  where
    late : (t : Bool) → ltb (k - m) n ≡ t → m ≤ k → pick t None (Some (k - m - n)) ≡ spent (Some k) (m + n)
    late true e h =
        spent-short (m + n) refl (omega (arith, ltb-true (k - m) n e))
    late false e h =
        ap Some (omega arith) ∙ spent-left (m + n) refl (omega (arith, ltb-false (k - m) n e))

    by : (t : Bool) → ltb k m ≡ t → spent (pick t None (Some (k - m))) n ≡ spent (Some k) (m + n)
    by true e = spent-short (m + n) refl (omega (arith, ltb-true k m e))
    by false e = late (ltb (k - m) n) refl (ltb-false k m e)

-- nothing is put
pub spent-zero : (x : Option ℕ) → spent x 0 ≡ x
unfolding spent pick
spent-zero None = refl
spent-zero (Some k) = let h : 0 ≤ k = omega arith in sym (spent-left 0 refl h) ∙ ap Some (omega arith)

-- what code has once it took n, from what it had
pub spent-more : {y z : Option ℕ} (x : Option ℕ) (m n k : ℕ) → y ≡ spent x m → z ≡ spent y n → m + n ≡ k → z ≡ spent x k
spent-more x m n k e f g = f ∙ ap (λ r. spent r n) e ∙ spent-sum x m n ∙ ap (spent x) g
