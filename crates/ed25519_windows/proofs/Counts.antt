-- Points as sums of multiples of two points, each of which is counted by what is added and by what is taken off.
use Prim.Native.Nat.{ℕ, ◌+◌, ◌*◌}
use mathlib.Core.Path.{◌≡◌, refl, sym, ap, ap₂, ◌∙◌}
use mathlib.Core.Bool.{Bool, true, false, cond}
use native.Mathlib.Omega.{arith}
use Rattle.ed25519_group_laws.specs.Affine.{Affine, sum_of, zero_point, times_of}
use Rattle.ed25519_group_laws.specs.Group.{Point, minus_of}
use Rattle.ed25519_group_laws.proofs.Group.{zero-point, minus-point, sum-point, sum-zero, zero-sum, sum-minus}
use Rattle.ed25519_group_laws.proofs.Group.{sum-commutes, sum-associates}
use Rattle.ed25519_group_laws.proofs.Times.{times_zero, times-point, times-add, crossed}
use Rattle.ed25519_windows.specs.OddDigits.{size_of, off_of, plus_of, less_of}
use Rattle.ed25519_windows.specs.Windows.{side_of, digit_of, pair_of}

-- a is [m]P - [n]P + [k]Q - [l]Q
pub record Counts (x y : Affine) (m n k l : ℕ) (a : Affine) : Type 0 where
  pub point : Point a
  pub is : sum_of a (pair_of x y n l) ≡ pair_of x y m k

-- what was added can be taken off
cancelled : (a b w : Affine) → Point a → Point b → Point w → sum_of a w ≡ sum_of b w → a ≡ b
cancelled a b w pa pb pw e = off a pa ∙ ap (λ u. sum_of u (minus_of w)) e ∙ sym (off b pb)
  where
    off : (u : Affine) → Point u → u ≡ sum_of (sum_of u w) (minus_of w)
    off u pu =
        sym (sum-associates u w (minus_of w) pu pw (minus-point w pw) ∙ ap (sum_of u) (sum-minus w pw) ∙ sum-zero u pu)

-- a digit of one point
module _ (b : ℕ) (a : Affine) (pa : Point a) where
  pub digit-point : Point (digit_of b a)
  digit-point = pick (off_of b)
    where
      pick : (off : Bool) → Point (side_of off (times_of (size_of b) a))
      pick true = minus-point _ (times-point (size_of b) a pa)
      pick false = times-point (size_of b) a pa

  digit-is : sum_of (digit_of b a) (times_of (less_of b) a) ≡ times_of (plus_of b) a
  unfolding plus_of less_of
  digit-is = pick (times_of (size_of b) a) (times-point (size_of b) a pa) (off_of b) refl
    where
      pick : (s : Affine) → Point s → (off : Bool) → times_of (size_of b) a ≡ s
          → sum_of (side_of off s) (times_of (cond off (size_of b) 0) a) ≡ times_of (cond off 0 (size_of b)) a
      pick s ps true e =
          ap (sum_of (minus_of s)) e ∙ sum-commutes (minus_of s) s (minus-point s ps) ps ∙ sum-minus s ps
          ∙ sym (times_zero a)
      pick s ps false e = ap (sum_of s) (times_zero a) ∙ sum-zero s ps ∙ sym e

module _ (x y : Affine) (px : Point x) (py : Point y) where
  pair-point : (m k : ℕ) → Point (pair_of x y m k)
  pair-point m k = sum-point _ _ (times-point m x px) (times-point k y py)

  pair-sum : (m k n l : ℕ) → sum_of (pair_of x y m k) (pair_of x y n l) ≡ pair_of x y (m + n) (k + l)
  pair-sum m k n l =
      crossed _ _ _ _ (times-point m x px) (times-point k y py) (times-point n x px) (times-point l y py)
      ∙ ap₂ (λ (a b : Affine). sum_of a b) (sym (times-add m n x px)) (sym (times-add k l y py))

  counts-sum : (m n k l m' n' k' l' : ℕ) (a b : Affine) → Counts x y m n k l a → Counts x y m' n' k' l' b
      → Counts x y (m + m') (n + n') (k + k') (l + l') (sum_of a b)
  counts-sum m n k l m' n' k' l' a b e f = record {
    point = sum-point a b e.point f.point;
    is = ap (sum_of (sum_of a b)) (sym (pair-sum n l n' l'))
        ∙ crossed a b (pair_of x y n l) (pair_of x y n' l') e.point f.point (pair-point n l) (pair-point n' l')
        ∙ ap₂ (λ (u w : Affine). sum_of u w) e.is f.is ∙ pair-sum m k m' k';
  }

  -- of one of the two alone
  left : (n : ℕ) → pair_of x y n 0 ≡ times_of n x
  left n = ap (sum_of (times_of n x)) (times_zero y) ∙ sum-zero (times_of n x) (times-point n x px)

  right : (l : ℕ) → pair_of x y 0 l ≡ times_of l y
  right l = ap (λ a. sum_of a (times_of l y)) (times_zero x) ∙ zero-sum (times_of l y) (times-point l y py)

  digit-left : (b : ℕ) → Counts x y (plus_of b) (less_of b) 0 0 (digit_of b x)
  digit-left b = record { point = digit-point b x px; is = rw (left (less_of b), left (plus_of b)) (digit-is b x px) }

  digit-right : (b : ℕ) → Counts x y 0 0 (plus_of b) (less_of b) (digit_of b y)
  digit-right b = record { point = digit-point b y py; is = rw (right (less_of b), right (plus_of b)) (digit-is b y py) }

  pub counts-first : Counts x y 0 0 0 0 zero_point
  counts-first = record { point = zero-point; is = zero-sum (pair_of x y 0 0) (pair-point 0 0) }

  -- twice as much, and a digit of each
  pub counts-turn : (m n k l b e : ℕ) (a : Affine) → Counts x y m n k l a
      → Counts x y (plus_of b + 2 * m) (less_of b + 2 * n) (plus_of e + 2 * k) (less_of e + 2 * l)
      (sum_of (sum_of (sum_of a a) (digit_of b x)) (digit_of e y))
  counts-turn m n k l b e a h =
      let two = counts-sum _ _ _ _ _ _ _ _ a a h h in
      let z : (i j : ℕ) → i + i + j + 0 ≡ j + 2 * i = λ i j. omega arith in
      let w : (i j : ℕ) → i + i + 0 + j ≡ j + 2 * i = λ i j. omega arith in
      rw (z m (plus_of b), z n (less_of b), w k (plus_of e), w l (less_of e)) at
      (counts-sum _ _ _ _ _ _ _ _ _ _ (counts-sum _ _ _ _ _ _ _ _ _ _ two (digit-left b)) (digit-right e))

  -- what is taken off is in what is added
  pub counts-last : (s n k l : ℕ) (a : Affine) → Counts x y (s + n) n (k + l) l a → a ≡ pair_of x y s k
  counts-last s n k l a h =
      cancelled a (pair_of x y s k) (pair_of x y n l) h.point (pair-point s k) (pair-point n l)
      (h.is ∙ sym (pair-sum s k n l))
