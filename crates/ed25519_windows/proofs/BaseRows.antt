-- Rows of multiples of the base point with Z = 1: one test, which antt computes, holds a row to its multiple.
use Prim.Native.Nat.{ℕ, zero, suc, ◌+◌, ◌*◌, ◌/◌, ◌^◌, ◌<◌}
use mathlib.Core.Path.{◌≡◌, refl}
use mathlib.Core.Bool.{Bool, true}
use mathlib.Core.List.{List, [], ◌∷◌}
use native.Mathlib.Omega.{arith}
use native.Mathlib.Decide.{dec_lt}
use native.Mathlib.Nat.{not-suc-le-zero}
use lib.Dec.{T, eqb, eqb→eq, ltb, ltb→lt, leb}
use lib.ListN.{length, get_or}
use Rattle.laws.proofs.Holds.{holds-exactly}
use Rattle.digits.specs.Digits.{value}
use Rattle.digits.proofs.Table.{both, both_left, both_right, every}
use Rattle.ed25519_field.specs.Field.{p, add_f, sub_f, mul_f}
use Rattle.ed25519_field.specs.Limbs.{num, unit, Limbs}
use Rattle.ed25519_field.proofs.Elements.{mul_most}
use Rattle.ed25519_field.proofs.Raise.{written, up2, up3}
use Rattle.ed25519_curve.specs.declared.Thin.{Thin}
use Rattle.ed25519_curve.specs.Points.{d, two_d, affine, base, point_mul, point_equal}
use Rattle.ed25519_curve.specs.Coords.{Even, Cached, whole_of}
use Rattle.ed25519_group_laws.specs.Affine.{Affine, times_of, point_of}
use Rattle.ed25519_group_laws.specs.Group.{Point}
use Rattle.ed25519_group_laws.proofs.Multiples.{affine-stands, base-stands, multiple-stands}
use Rattle.ed25519_group_laws.proofs.Equality.{equal-exactly}
use Rattle.ed25519_windows.specs.Windows.{BaseRow}

-- the point whose Y - X and Y + X are these, with Z = 1: half their difference, and half their sum
abbrev half : ℕ → ℕ
half n = mul_f n ((p + 1) / 2)

abbrev point_from : List ℕ → List ℕ → Affine
point_from m q = record { x = half (sub_f (num q) (num m)); y = half (add_f (num q) (num m)) }

-- a is a point of the curve, with coordinates below p
abbrev curve : Affine → Bool
curve a =
    eqb (sub_f (mul_f a.y a.y) (mul_f a.x a.x))
    (add_f 1 (mul_f d (mul_f (mul_f a.x a.x) (mul_f a.y a.y))))

abbrev below : Affine → Bool
below a = both (ltb a.x p) (ltb a.y p)

is-point : (a : Affine) → T (both (below a) (curve a)) → Point a
is-point a t =
    let u = both_left (below a) (curve a) t in record {
      x_below = ltb→lt a.x p (both_left (ltb a.x p) (ltb a.y p) u);
      y-below = ltb→lt a.y p (both_right (ltb a.x p) (ltb a.y p) u);
      on-curve = eqb→eq _ _ (both_right (below a) (curve a) t);
    }

-- five limbs that are the number n
abbrev limbs : List ℕ → ℕ → Bool
limbs xs n = both (eqb (num xs) n) (both (eqb (length xs) 5) (every (λ i x. leb x unit) 0 xs))

limbs-num : (xs : List ℕ) (n : ℕ) → T (limbs xs n) → num xs ≡ n
limbs-num xs n t = eqb→eq _ _ (both_left (eqb (num xs) n) (both (eqb (length xs) 5) (every (λ i x. leb x unit) 0 xs)) t)

limbs-limbs : (xs : List ℕ) (n : ℕ) → T (limbs xs n) → Limbs 1 xs
limbs-limbs xs n t =
    let u = both_right (eqb (num xs) n) (both (eqb (length xs) 5) (every (λ i x. leb x unit) 0 xs)) t in
    written xs (eqb→eq _ _ (both_left (eqb (length xs) 5) (every (λ i x. leb x unit) 0 xs) u))
    (both_right (eqb (length xs) 5) (every (λ i x. leb x unit) 0 xs) u)

-- Y - X, Y + X and 2 d T of a point with Z = 1
abbrev fits : Affine → Thin → Bool
fits a r =
    both (limbs r.minus (sub_f a.y a.x))
    (both (limbs r.plus (add_f a.y a.x)) (limbs r.scaled (mul_f (mul_f a.x a.y) two_d)))

two-limbs : Limbs 1 (2 ∷ 0 ∷ 0 ∷ 0 ∷ 0 ∷ [])
two-limbs = written _ refl tt

two_is : num (2 ∷ 0 ∷ 0 ∷ 0 ∷ 0 ∷ []) ≡ add_f 1 1
unfolding num value p add_f
two_is = refl

-- a row by that test
module _ (a : Affine) (r : Thin) (t : T (fits a r)) where
  minus-fits : T (limbs r.minus (sub_f a.y a.x))
  minus-fits = both_left (limbs r.minus (sub_f a.y a.x)) _ t

  others : T (both (limbs r.plus (add_f a.y a.x)) (limbs r.scaled (mul_f (mul_f a.x a.y) two_d)))
  others = both_right (limbs r.minus (sub_f a.y a.x)) _ t

  plus-fits : T (limbs r.plus (add_f a.y a.x))
  plus-fits = both_left (limbs r.plus (add_f a.y a.x)) _ others

  scaled_fits : T (limbs r.scaled (mul_f (mul_f a.x a.y) two_d))
  scaled_fits = both_right (limbs r.plus (add_f a.y a.x)) _ others

  even : Even (whole_of r)
  even = record {
    minus = up3 (up2 (limbs-limbs r.minus _ minus-fits));
    plus = up3 (up2 (limbs-limbs r.plus _ plus-fits));
    twice = up2 two-limbs;
    scaled = limbs-limbs r.scaled _ scaled_fits;
  }

  cached : Cached (affine a.x a.y) (whole_of r)
  cached = record {
    minus_is = limbs-num r.minus _ minus-fits;
    plus-is = limbs-num r.plus _ plus-fits;
    twice-is = two_is;
    scaled-is = limbs-num r.scaled _ scaled_fits;
    even = even;
  }

-- a is [n]B
abbrev folds : ℕ → Affine → Bool
folds n a = point_equal (point_mul n base) (affine a.x a.y)

folds-exactly : (n : ℕ) (a : Affine) → n < 2 ^ 256 → Point a → T (folds n a) → times_of n (point_of base) ≡ a
folds-exactly n a low pa t =
    (equal-exactly (point_mul n base) (affine a.x a.y) (times_of n (point_of base)) a
    (multiple-stands n base (point_of base) low base-stands) (affine-stands a pa)).0
    ((holds-exactly (folds n a)).1 t)

-- r is the row of [n]B
abbrev tested : ℕ → Affine → Thin → Bool
tested n a r = both (both (below a) (curve a)) (both (folds n a) (fits a r))

abbrev pub holds : ℕ → Thin → Bool
holds n r = tested n (point_from r.minus r.plus) r

tested-row : (n : ℕ) (a : Affine) (r : Thin) → n < 2 ^ 256 → T (tested n a r) → BaseRow n (whole_of r)
tested-row n a r low t =
    let pa : Point a = is-point a (both_left (both (below a) (curve a)) _ t) in
    let u = both_right (both (below a) (curve a)) (both (folds n a) (fits a r)) t in
    let c = cached a r (both_right (folds n a) (fits a r) u) in
    record {
      even = c.even;
      stands = rw (folds-exactly n a low pa (both_left (folds n a) (fits a r) u)) (record {
        P = affine a.x a.y;
        low = mul_most a.x a.y;
        cached = c;
        stands = affine-stands a pa;
      });
    }

pub row-stands : (n : ℕ) (r : Thin) → n < 2 ^ 256 → T (holds n r) → BaseRow n (whole_of r)
row-stands n r low t = tested-row n (point_from r.minus r.plus) r low t

-- a test of all numbers below n
abbrev pub all : (ℕ → Bool) → ℕ → Bool
all f zero = true
all f (suc n) = both (f n) (all f n)

pub all-at : (f : ℕ → Bool) (n : ℕ) → T (all f n) → (k : ℕ) → k < n → T (f k)
all-at f zero t k h = absurd (not-suc-le-zero h)
all-at f (suc n) t k h = elim (dec_lt k n) [
  | yes g ↦ all-at f n (both_right (f n) (all f n) t) k g
  | no g ↦ (let e : k ≡ n = omega arith in rw e (both_left (f n) (all f n) t))
]

-- the rows of B, 3B, .. 15B, of which each passes the test
pub odd-rows : (t : List Thin) (r : Thin) → T (all (λ k. holds (2 * k + 1) (get_or t k r)) 8) → (j : ℕ) → j < 8
    → BaseRow (2 * j + 1) (whole_of (get_or t j r))
odd-rows t r ok j h =
    row-stands (2 * j + 1) (get_or t j r) (omega arith) (all-at (λ k. holds (2 * k + 1) (get_or t k r)) 8 ok j h)
