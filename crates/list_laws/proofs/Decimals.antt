-- A number as we write it is one by RFC 8259's grammar, with neither fraction nor exponent.
use Prim.Native.Nat.{ℕ, zero, suc, ◌+◌, ◌*◌, ◌/◌, ◌%◌, ◌<◌}
use mathlib.Core.Path.{◌≡◌, refl, sym, subst}
use mathlib.Core.Bool.{Bool, true, false}
use mathlib.Core.List.{List, [], ◌∷◌, ◌++◌, append_assoc, append-nil}
use native.Mathlib.Omega.{arith}
use lib.Dec.{eqb, ltb}
use borrow.Author.Tests.{ltb-true, ltb-false, eqb-true, eqb-false, ne_eqb}
use Rattle.laws.specs.Pick.{pick, either}
use Rattle.json_laws.specs.Rules.{Rule, these, within, ◌·◌, join, left, right, *◌, none, more, absent}
use Rattle.json_laws.specs.Abnf
use Rattle.list_read.specs.Server.{is_mark, unmarked}
use Rattle.list_write.specs.Decimal.{decimal_in, decimal}
use Rattle.list_laws.proofs.Strings.{never}

-- what has at most k digits is below this
bound : ℕ → ℕ
bound zero = 1
bound (suc k) = 10 * bound k

-- one more at the end
star-last : {P : Rule} {x y : List ℕ} → (* P) x → P y → (* P) (x ++ y)
star-last {P} {y = y} none p = subst (* P) (append-nil y) (more p none)
star-last {P} {y = y} (more {x = a} {y = b} q m) p = subst (* P) (sym (append_assoc a b y)) (more q (star-last m p))

join_last : {P Q : Rule} {x y : List ℕ} → (P · * Q) x → Q y → (P · * Q) (x ++ y)
join_last {P} {Q} {y = y} (join {x = a} {y = b} p m) q =
    subst (P · * Q) (sym (append_assoc a b y)) (join p (star-last m q))

digits : (k n : ℕ) → 0 < n → n < bound k → (Abnf.digit1-9 · * Abnf.DIGIT) (decimal_in k n)
unfolding bound decimal_in pick Abnf.digit1-9 Abnf.DIGIT
digits zero n l h = absurd (omega arith)
digits (suc k) n l h = by (ltb n 10) refl (λ i j. digits k (n / 10) i j)
  where
    by : (t : Bool) → ltb n 10 ≡ t
        → (0 < n / 10 → n / 10 < bound k → (Abnf.digit1-9 · * Abnf.DIGIT) (decimal_in k (n / 10)))
        → (Abnf.digit1-9 · * Abnf.DIGIT) (pick t [] (decimal_in k (n / 10)) ++ (48 + n % 10) ∷ [])
    by true e go =
        let g = ltb-true n 10 e in
        join {x = (48 + n % 10) ∷ []} {y = []} (within {b = 48 + n % 10} (omega arith) (omega arith)) none
    by false e go =
        let g = ltb-false n 10 e in
        join_last (go (omega arith) (omega arith)) (within {b = 48 + n % 10} (omega arith) (omega arith))

whole : (n : ℕ) → n < 10000000000 → Abnf.int (decimal n)
unfolding Abnf.int Abnf.zero decimal decimal_in bound pick
whole n h = by (eqb n 0) refl
  where
    by : (t : Bool) → eqb n 0 ≡ t → Abnf.int (decimal n)
    by true e = rw (eqb-true n 0 e) (left these)
    by false e = let g = eqb-false n 0 e in right (digits 10 n (omega (arith, g)) (omega arith))

pub decimal-number : (n : ℕ) → n < 10000000000 → Abnf.number (decimal n)
unfolding Abnf.number
decimal-number n h =
    subst Abnf.number (append-nil (decimal n)) (join {x = []} absent (join (whole n h) (join {x = []} absent absent)))

-- ---- No mark.
digit-unmarked : (m : ℕ) → m < 10 → is_mark (48 + m) ≡ false
unfolding is_mark either
digit-unmarked m h =
    rw (
      ne_eqb (48 + m) 46 (λ e. omega arith),
      ne_eqb (48 + m) 101 (λ e. omega arith),
      ne_eqb (48 + m) 69 (λ e. omega arith),
    ) refl

unmarked-last : (x : List ℕ) (b : ℕ) → unmarked x ≡ true → is_mark b ≡ false → unmarked (x ++ b ∷ []) ≡ true
unfolding unmarked pick
unmarked-last [] b e f = rw f refl
unmarked-last (a ∷ x) b e f = by (is_mark a) e (unmarked-last x b)
  where
    by : (t : Bool) → pick t false (unmarked x) ≡ true
        → (unmarked x ≡ true → is_mark b ≡ false → unmarked (x ++ b ∷ []) ≡ true)
        → pick t false (unmarked (x ++ b ∷ [])) ≡ true
    by true g go = never g
    by false g go = go g f

unmarked-in : (k n : ℕ) → unmarked (decimal_in k n) ≡ true
unfolding decimal_in unmarked pick
unmarked-in zero n = refl
unmarked-in (suc k) n =
    unmarked-last (pick (ltb n 10) [] (decimal_in k (n / 10))) (48 + n % 10) (by (ltb n 10) (unmarked-in k (n / 10)))
    (digit-unmarked (n % 10) (omega arith))
  where
    by : (t : Bool) → unmarked (decimal_in k (n / 10)) ≡ true → unmarked (pick t [] (decimal_in k (n / 10))) ≡ true
    by true h = refl
    by false h = h

pub decimal-unmarked : (n : ℕ) → unmarked (decimal n) ≡ true
unfolding decimal
decimal-unmarked n = unmarked-in 10 n
