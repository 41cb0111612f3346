-- Where [n]B is (0, 1), L divides n: since L is prime, the least positive n of which it is so is 1 or L, and not 1.
use Prim.Native.Nat.{ℕ, ◌+◌, ◌*◌, ◌/◌, ◌%◌, ◌<◌}
use mathlib.Core.Path.{◌≡◌, sym, ap, ◌∙◌}
use mathlib.Core.Bool.{Bool}
use native.Mathlib.Omega.{arith}
use native.Mathlib.Nat.{div-add-mod}
use lib.Dec.{T, lit<}
use Rattle.laws.proofs.Holds.{holds-exactly}
use Rattle.ed25519_curve.specs.Points.{base}
use Rattle.ed25519_scalar.specs.Order.{L}
use Rattle.ed25519_scalar.proofs.Steps.{L-pos}
use Rattle.ed25519_prime_laws.proofs.Euclid.{factor-of}
use Rattle.ed25519_prime_laws.proofs.Firsts.{First, first_of, divides}
use Rattle.ed25519_group_laws.specs.Affine.{Affine, sum_of, zero_point, times_of, same_of, point_of}
use Rattle.ed25519_group_laws.specs.Group.{Point}
use Rattle.ed25519_group_laws.proofs.Group.{zero-point, sum-zero, zero-sum}
use Rattle.ed25519_group_laws.proofs.Times.{times_zero, times-next, times-point, times-add, times-times, times-neutral}
use Rattle.ed25519_group_laws.proofs.Multiples.{base-stands}
use Rattle.ed25519_group_laws.proofs.Equality.{same-exactly}
use Rattle.ed25519_group_laws.proofs.TimesL.{order-affine}
use Rattle.ed25519_group_laws.proofs.PrimeOrder.{L-prime}

-- where [k]P is (0, 1), multiples of k count nothing
module _ (a : Affine) (pa : Point a) (k : ℕ) (none : times_of k a ≡ zero_point) where
  multiples-none : (j : ℕ) → times_of (k * j) a ≡ zero_point
  multiples-none j =
      let turn : k * j ≡ j * k = omega arith in
      ap (λ i. times_of i a) turn ∙ sym (times-times j k a pa) ∙ ap (times_of j) none ∙ times-neutral j

  rest-is : (j s : ℕ) → times_of (k * j + s) a ≡ times_of s a
  rest-is j s =
      times-add (k * j) s a pa
      ∙ ap (λ b. sum_of b (times_of s a)) (multiples-none j)
      ∙ zero-sum (times_of s a) (times-point s a pa)

  pub rest_of : (n : ℕ) → times_of n a ≡ times_of (n % k) a
  rest_of n = ap (λ i. times_of i a) (sym (div-add-mod n k)) ∙ rest-is (n / k) (n % k)

unfoldable pub B : Affine
B = point_of base

pub B-point : Point B
unfolding B
B-point = base-stands.point

pub B-order : times_of L B ≡ zero_point
unfolding B
B-order = order-affine

-- B is not (0, 1)
x-above : 0 < B.x
unfolding B base
x-above = lit< tt

B-other : times_of 1 B ≡ zero_point → ⊥
B-other e = absurd (omega (arith, x-above, ap (λ (a : Affine). a.x) (sym once ∙ e)))
  where
    once : times_of 1 B ≡ B
    once = times-next 0 B ∙ ap (sum_of B) (times_zero B) ∙ sum-zero B B-point

-- the numbers n of which [n]B is (0, 1)
P : ℕ → Bool
P n = same_of (times_of n B) zero_point

holds : (n : ℕ) → times_of n B ≡ zero_point → T (P n)
unfolding P
holds n e = (holds-exactly (P n)).0 ((same-exactly (times_of n B) zero_point (times-point n B B-point) zero-point).1 e)

known : (n : ℕ) → T (P n) → times_of n B ≡ zero_point
unfolding P
known n t = (same-exactly (times_of n B) zero_point (times-point n B B-point) zero-point).0 ((holds-exactly (P n)).1 t)

closed : (k : ℕ) → T (P k) → (j s : ℕ) → T (P (k * j + s)) → T (P s)
closed k t j s u = holds s (sym (rest-is B B-point k (known k t) j s) ∙ known (k * j + s) u)

pub divided : (n : ℕ) → times_of n B ≡ zero_point → n % L ≡ 0
divided n e =
    let f = first_of P L L-pos (holds L B-order) in
    let k : ℕ = f.0 in
    let first : First P k = f.1 in
    let d = divides P k first (closed k first.holds) in
    let one : k ≡ 1 → ⊥ = λ (z : k ≡ 1). B-other (ap (λ i. times_of i B) (sym z) ∙ known k first.holds) in
    let whole : k ≡ L = factor-of L k L-prime first.positive (d L (holds L B-order)) one in
    ap (λ i. n % i) (sym whole) ∙ d n (holds n e)
