-- RFC 8032, section 3: the points of the curve, which its addition makes a group.
use Rattle.std.specs.Prelude.{◌<◌}
use Rattle.ed25519_field.specs.Field.{p, sub_f}
use Rattle.ed25519_curve.specs.Equation.{OnCurve}
use Rattle.ed25519_group_laws.specs.Affine.{Affine}

-- a is a point of the curve, with coordinates below p
pub record Point (a : Affine) : Type 0 where
  pub x_below : a.x < p
  pub y-below : a.y < p
  pub on-curve : OnCurve a.x a.y

-- -(x, y) = (-x, y)
abbrev pub minus_of : Affine → Affine
minus_of P = record { x = sub_f 0 P.x; y = P.y }
