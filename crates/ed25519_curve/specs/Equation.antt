-- RFC 8032, sections 3 and 5.1: the curve's equation and the sum of two of its points, for theorems alone. Nothing is
-- divided: each side is multiplied by what it would be divided by.
use Rattle.std.specs.Prelude.{ℕ, ◌+◌, ◌*◌, ◌%◌, ◌≡◌}
use Rattle.ed25519_field.specs.Field.{p, add_f, sub_f, mul_f}
use Rattle.ed25519_curve.specs.Points.{Pt, d}

-- 5.1: -x^2 + y^2 = 1 + d x^2 y^2
abbrev pub OnCurve : ℕ → ℕ → Type 0
OnCurve x y = sub_f (mul_f y y) (mul_f x x) ≡ add_f 1 (mul_f d (mul_f (mul_f x x) (mul_f y y)))

-- two numbers are the same modulo p
abbrev pub Equal : ℕ → ℕ → Type 0
Equal m n = m % p ≡ n % p

-- the same equation of x = X/Z, y = Y/Z, times Z^4, with X^2 on the other side
abbrev pub OnCurveZ : Pt → Type 0
OnCurveZ P =
    Equal (P.Z * P.Z * (P.Y * P.Y))
    (P.Z * P.Z * (P.X * P.X) + (P.Z * P.Z * (P.Z * P.Z) + d * (P.X * P.X * (P.Y * P.Y))))

-- x y = T/Z
abbrev pub Extended : Pt → Type 0
Extended P = Equal (P.T * P.Z) (P.X * P.Y)

-- R is the sum of P and Q by section 3, with a = -1: of x = X/Z and y = Y/Z
--   x3 (1 + d x1 x2 y1 y2) = x1 y2 + x2 y1
--   y3 (1 - d x1 x2 y1 y2) = y1 y2 + x1 x2
-- both times Z3 (Z1 Z2)^2, and in the second what is subtracted on the other side
pub record IsSum (P Q R : Pt) : Type 0 where
  pub x :
      Equal (R.X * (P.Z * Q.Z * (P.Z * Q.Z) + d * (P.X * Q.X * (P.Y * Q.Y))))
      (R.Z * (P.Z * Q.Z * (P.X * Q.Y + Q.X * P.Y)))
  pub y :
      Equal (R.Y * (P.Z * Q.Z * (P.Z * Q.Z)))
      (R.Y * (d * (P.X * Q.X * (P.Y * Q.Y))) + R.Z * (P.Z * Q.Z * (P.Y * Q.Y + P.X * Q.X)))
  pub t : Extended R
