-- RFC 8032, 5.1.4: "A point (x,y) is represented in extended homogeneous coordinates (X, Y, Z, T), with x = X/Z,
-- y = Y/Z, x * y = T/Z."
use Rattle.std.specs.Prelude.{◌*◌, ◌%◌, ◌≤◌, ◌≡◌}
use Rattle.ed25519_field.specs.Field.{p}
use Rattle.ed25519_curve.specs.Points.{Pt}
use Rattle.ed25519_curve.specs.Equation.{Equal}
use Rattle.ed25519_group_laws.specs.Affine.{Affine}
use Rattle.ed25519_group_laws.specs.Group.{Point}

-- P stands for the point a of the curve: Z is not 0, and nothing is divided here
pub record StandsFor (P : Pt) (a : Affine) : Type 0 where
  pub other : P.Z % p ≡ 0 → ⊥
  pub x : Equal P.X (a.x * P.Z)
  pub y : Equal P.Y (a.y * P.Z)
  pub t : Equal P.T (a.x * a.y * P.Z)
  pub point : Point a
  -- which the sum's formula asks: what is subtracted is at most p
  pub low : P.X ≤ p
