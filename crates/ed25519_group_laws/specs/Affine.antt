-- RFC 8032 over points (x, y) and with division: section 3's sum, and multiples by it. Code computes in coordinates
-- that spare the divisions.
use Rattle.std.specs.Prelude.{ℕ, zero, suc, ◌-◌, Bool, ◌&&◌, eqb}
use Rattle.ed25519_field.specs.Field.{p, add_f, sub_f, mul_f, pow_f}
use Rattle.ed25519_curve.specs.Points.{Pt, d}

-- 5.1.1: "For inversion modulo p, it is recommended to use the identity x^-1 = x^(p-2) (mod p)." This is a / b.
unfoldable pub div_f : ℕ → ℕ → ℕ
div_f a b = mul_f a (pow_f b (p - 2))

-- section 3: a point (x, y)
pub record Affine : Type 0 where
  pub x : ℕ
  pub y : ℕ

-- "(x3, y3) = (x1, y1) + (x2, y2), with the formulas"
--   x3 = (x1 * y2 + x2 * y1) / (1 + d * x1 * x2 * y1 * y2)
--   y3 = (y1 * y2 - a * x1 * x2) / (1 - d * x1 * x2 * y1 * y2)
-- where a = -1 (5.1, table 1), and `cross_f` is d * x1 * x2 * y1 * y2
abbrev pub cross_f : Affine → Affine → ℕ
cross_f P Q = mul_f d (mul_f (mul_f P.x Q.x) (mul_f P.y Q.y))

unfoldable pub sum_of : Affine → Affine → Affine
sum_of P Q = record {
  x = div_f (add_f (mul_f P.x Q.y) (mul_f Q.x P.y)) (add_f 1 (cross_f P Q));
  y = div_f (add_f (mul_f P.y Q.y) (mul_f P.x Q.x)) (sub_f 1 (cross_f P Q));
}

-- "The neutral element in the group is (0,1)."
abbrev pub zero_point : Affine
zero_point = record { x = 0; y = 1 }

-- section 2: [n]P is P added to itself n times
unfoldable pub times_of : ℕ → Affine → Affine
times_of zero P = zero_point
times_of (suc n) P = sum_of P (times_of n P)

-- the same point
abbrev pub same_of : Affine → Affine → Bool
same_of P Q = eqb P.x Q.x && eqb P.y Q.y

-- the point (x, y) of coordinates with Z = 1: of the base point (5.1, table 1), and of what is decoded (5.1.3)
abbrev pub point_of : Pt → Affine
point_of P = record { x = P.X; y = P.Y }
