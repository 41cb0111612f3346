-- What it takes for a point to stand for a sum: that it is the sum by the law multiplied out (`IsSum`), and that its Z
-- is not 0.
use Prim.Native.Nat.{ℕ, ◌+◌, ◌*◌, ◌%◌, ◌≤◌}
use mathlib.Core.Path.{◌≡◌}
use native.Mathlib.Omega.{arith}
use Rattle.ed25519_field.specs.Field.{p, mul_f}
use Rattle.ed25519_curve.specs.Points.{Pt, d}
use Rattle.ed25519_curve.specs.Equation.{IsSum}
use Rattle.ed25519_prime_laws.proofs.Squares.{times-other}
use Rattle.ed25519_group_laws.specs.Affine.{Affine, sum_of}
use Rattle.ed25519_group_laws.specs.Standing.{StandsFor}
use Rattle.ed25519_group_laws.proofs.Modulo.{Same, known, equal, back, ◌⊕◌, ◌⊙◌, ◌⊗◌, by, is_zero, gone, not-zero}
use Rattle.ed25519_group_laws.proofs.Division.{mul-same, divide}
use Rattle.ed25519_group_laws.proofs.Curve.{On, on-plain}
use Rattle.ed25519_group_laws.proofs.Denominators.{plus-other, minus-other}
use Rattle.ed25519_group_laws.proofs.Sums.{k, below-x, below-y, below-x-is, below-y-is, below-x-other, below-y-other}
use Rattle.ed25519_group_laws.proofs.Sums.{sum-x, sum-y}
use Rattle.ed25519_group_laws.proofs.Group.{sum-point}

module _ (P : Pt) (a : Affine) (s : StandsFor P a) where
  pub x-is : Same P.X (a.x * P.Z)
  x-is = known s.x

  pub y-is : Same P.Y (a.y * P.Z)
  y-is = known s.y

  pub t-is : Same P.T (a.x * a.y * P.Z)
  t-is = known s.t

  pub on : On a.x a.y
  on = on-plain a.x a.y s.point.on-curve

  pub extended : Same (P.T * P.Z) (P.X * P.Y)
  extended = by (P.Z ⊙ t-is ⊕ back (x-is ⊗ y-is)) (omega arith)

-- N / Z is the fraction w / e, by the law times z^2: z is Z1 Z2, and XX, YY and W are x, y and w times z
module _ (N Z z e n XX YY W x y w : ℕ) (z-other : z % p ≡ 0 → ⊥) (e-other : e % p ≡ 0 → ⊥) (n-is : Same (n * e) w)
    (xx : Same XX (x * z)) (yy : Same YY (y * z)) (ww : Same W (w * z)) where
  fraction : Same (N * e * (z * z)) (Z * w * (z * z)) → Same N (n * Z)
  fraction h =
      divide e e-other (by (divide (z * z) (times-other z z z-other z-other) h ⊕ Z ⊙ back n-is) (omega arith))

  fraction-x : Same e (1 + d * (x * y)) → Same (N * (z * z + d * (XX * YY))) (Z * (z * W)) → Same N (n * Z)
  fraction-x e-is law =
      fraction (by ((N * (z * z)) ⊙ e-is ⊕ (N * d) ⊙ back (xx ⊗ yy) ⊕ law ⊕ (Z * z) ⊙ ww) (omega arith))

  fraction-y : Same (e + d * (x * y)) 1 → Same (N * (z * z)) (N * (d * (XX * YY)) + Z * (z * W)) → Same N (n * Z)
  fraction-y e-is law =
      fraction (by ((N * (z * z)) ⊙ e-is ⊕ (N * d) ⊙ (xx ⊗ yy) ⊕ law ⊕ (Z * z) ⊙ ww) (omega arith))

module _ (P Q R : Pt) (a b : Affine) (sP : StandsFor P a) (sQ : StandsFor Q b) (sum : IsSum P Q R) where
  z-other : (P.Z * Q.Z) % p ≡ 0 → ⊥
  z-other = times-other P.Z Q.Z sP.other sQ.other

  xx : Same (P.X * Q.X) (a.x * b.x * (P.Z * Q.Z))
  xx = by (x-is P a sP ⊗ x-is Q b sQ) (omega arith)

  yy : Same (P.Y * Q.Y) (a.y * b.y * (P.Z * Q.Z))
  yy = by (y-is P a sP ⊗ y-is Q b sQ) (omega arith)

  x-sum : Same R.X ((sum_of a b).x * R.Z)
  x-sum =
      let ww : Same (P.X * Q.Y + Q.X * P.Y) ((a.x * b.y + b.x * a.y) * (P.Z * Q.Z)) =
      by (x-is P a sP ⊗ y-is Q b sQ ⊕ x-is Q b sQ ⊗ y-is P a sP) (omega arith) in
      fraction-x R.X R.Z (P.Z * Q.Z) (below-x a b) (sum_of a b).x _ _ _ _ _ _ z-other
      (below-x-other a b (on P a sP) (on Q b sQ)) (sum-x a b (on P a sP) (on Q b sQ)) xx yy ww
      (below-x-is a b) (known sum.x)

  y-sum : Same R.Y ((sum_of a b).y * R.Z)
  y-sum =
      let ww : Same (P.Y * Q.Y + P.X * Q.X) ((a.y * b.y + a.x * b.x) * (P.Z * Q.Z)) =
      by (yy ⊕ xx) (omega arith) in
      fraction-y R.Y R.Z (P.Z * Q.Z) (below-y a b) (sum_of a b).y _ _ _ _ _ _ z-other
      (below-y-other a b (on P a sP) (on Q b sQ)) (sum-y a b (on P a sP) (on Q b sQ)) xx yy ww
      (below-y-is a b) (known sum.y)

  pub stands : R.X ≤ p → (R.Z % p ≡ 0 → ⊥) → StandsFor R (sum_of a b)
  stands low other =
      let law : Same (R.T * R.Z) (R.X * R.Y) = known sum.t in
      let t-sum : Same R.T ((sum_of a b).x * (sum_of a b).y * R.Z) =
      divide R.Z other (by (law ⊕ x-sum ⊗ y-sum) (omega arith)) in
      record {
        other = other;
        x = equal x-sum;
        y = equal y-sum;
        t = equal t-sum;
        low = low;
        point = sum-point a b sP.point sQ.point;
      }

-- Z3 = F G, where F is D (1 - k), and G is D (1 + k) or its negative
module _ (a b : Affine) (on-a : On a.x a.y) (on-b : On b.x b.y) where
  pub product-other : (D F G : ℕ) → (D % p ≡ 0 → ⊥) → Same (F + D * k a b) D → (Same G 0 → Same (D * (1 + k a b)) 0)
      → mul_f F G % p ≡ 0 → ⊥
  product-other D F G other F-is G-is = not-zero (mul-same F G) (times-other F G F-other G-other)
    where
      F-other : F % p ≡ 0 → ⊥
      F-other e =
          let one : Same (k a b) 1 = divide D other (by (F-is ⊕ back (is_zero F e)) (omega arith)) in
          minus-other a.x a.y b.x b.y on-a on-b one

      G-other : G % p ≡ 0 → ⊥
      G-other e =
          times-other D (1 + k a b) other (plus-other a.x a.y b.x b.y on-a on-b) (gone (G-is (is_zero G e)))
