-- A multiple stands for the affine multiple; and a point with Z = 1, as the base point, stands for itself.
use Prim.Native.Nat.{ℕ, zero, suc, ◌*◌, ◌/◌, ◌%◌, ◌^◌, ◌<◌}
use mathlib.Core.Path.{◌≡◌, refl, ap, ◌∙◌}
use mathlib.Core.Bool.{Bool, true, false, cond}
use native.Mathlib.Omega.{arith}
use native.Mathlib.Nat.{div-add-mod}
use borrow.Author.Tests.{eqb-true, eqb-false}
use lib.Dec.{eqb, lit<}
use Rattle.ed25519_field.specs.Field.{p, mul_f}
use Rattle.ed25519_curve.specs.Points.{Pt, affine, base, neutral, point_add, point_double, mul_from, point_mul}
use Rattle.ed25519_curve.proofs.Affine.{base-on-curve}
use Rattle.ed25519_group_laws.specs.Affine.{Affine, sum_of, zero_point, times_of, point_of}
use Rattle.ed25519_group_laws.specs.Group.{Point}
use Rattle.ed25519_group_laws.specs.Standing.{StandsFor}
use Rattle.ed25519_group_laws.proofs.Modulo.{Same, equal, same, ◌⨾◌, small-other}
use Rattle.ed25519_group_laws.proofs.Division.{mul-same}
use Rattle.ed25519_group_laws.proofs.Group.{zero-point, sum-zero, zero-sum, sum-associates}
use Rattle.ed25519_group_laws.proofs.Times.{times-point, times-double}
use Rattle.ed25519_group_laws.proofs.Adding.{sum-stands}
use Rattle.ed25519_group_laws.proofs.Doubling.{double-stands}

-- a point (x, y) of the curve, with Z = 1
pub affine-stands : (a : Affine) → Point a → StandsFor (affine a.x a.y) a
affine-stands a pa =
    let once : (n : ℕ) → Same n (n * 1) = λ n. same (omega arith) in
    record {
      other = small-other 1 (omega arith) (omega arith);
      x = equal (once a.x);
      y = equal (once a.y);
      t = equal (mul-same a.x a.y ⨾ once (a.x * a.y));
      low = omega (arith, pa.x_below);
      point = pa;
    }

pub neutral-stands : StandsFor neutral zero_point
unfolding neutral mul_f p
neutral-stands = affine-stands zero_point zero-point

base-point : Point (point_of base)
unfolding base p
base-point = record { x_below = lit< tt; y-below = lit< tt; on-curve = base-on-curve }

pub base-stands : StandsFor base (point_of base)
unfolding base
base-stands = affine-stands (point_of base) base-point

picked : (t : Bool) (P Q : Pt) (a b : Affine) → StandsFor P a → StandsFor Q b → StandsFor (cond t P Q) (cond t a b)
picked true P Q a b s r = s
picked false P Q a b s r = r

-- one bit of s: its half is for the double
bit : (s : ℕ) (a b : Affine) → Point a → Point b
    → sum_of (cond (eqb (s % 2) 1) (sum_of b a) b) (times_of (s / 2) (sum_of a a)) ≡ sum_of b (times_of s a)
unfolding times_of
bit s a b pa pb = rw (times-double (s / 2) a pa) (pick (eqb (s % 2) 1) refl)
  where
    pick : (t : Bool) → eqb (s % 2) 1 ≡ t → sum_of (cond t (sum_of b a) b) (times_of (s / 2 * 2) a) ≡ sum_of b (times_of s a)
    pick true e =
        let odd : suc (s / 2 * 2) ≡ s = omega (arith, div-add-mod s 2, eqb-true (s % 2) 1 e) in
        sum-associates b a (times_of (s / 2 * 2) a) pb pa (times-point (s / 2 * 2) a pa) ∙ ap (λ n. sum_of b (times_of n a)) odd
    pick false e =
        let even : s / 2 * 2 ≡ s = omega (arith, div-add-mod s 2, eqb-false (s % 2) 1 e) in
        ap (λ n. sum_of b (times_of n a)) even

-- section 6's point_mul, from the lowest bit on: Q and [s]P are added up
from-stands : (n s : ℕ) (P Q : Pt) (a b : Affine) → s < 2 ^ n → StandsFor P a → StandsFor Q b
    → StandsFor (mul_from n s P Q) (sum_of b (times_of s a))
unfolding mul_from times_of
from-stands zero s P Q a b low sP sQ =
    let none : s ≡ 0 = omega arith in
    rw (none, sum-zero b sQ.point) sQ
from-stands (suc n) s P Q a b low sP sQ =
    rw (← bit s a b sP.point sQ.point)
    (from-stands n (s / 2) (point_double P) _ (sum_of a a) _ (omega (arith, div-add-mod s 2)) (double-stands P a sP)
    (picked (eqb (s % 2) 1) (point_add Q P) Q (sum_of b a) b (sum-stands Q P b a sQ sP) sQ))

pub multiple-stands : (s : ℕ) (P : Pt) (a : Affine) → s < 2 ^ 256 → StandsFor P a → StandsFor (point_mul s P) (times_of s a)
multiple-stands s P a low h =
    rw (← zero-sum (times_of s a) (times-point s a h.point))
    (from-stands 256 s P neutral a zero_point low h neutral-stands)
