-- RFC 8032, 5.1.2 and 5.1.3, with no root taken: of which point a string of 32 bytes is the encoding. `decode_of` of
-- ed25519_point is proved to give that point, and to fail exactly where there is none.
use Rattle.std.specs.Prelude.{ℕ, ◌<◌, ◌≡◌, List}
use Rattle.ed25519_field.specs.Field.{p}
use Rattle.ed25519_curve.specs.Equation.{OnCurve}
use Rattle.ed25519_point.specs.Encoding.{encode_of}

-- s is the encoding of (x, y), which is a point of the curve, with coordinates below p
pub record Encodes (s : List ℕ) (x y : ℕ) : Type 0 where
  pub x_below : x < p
  pub y-below : y < p
  pub on-curve : OnCurve x y
  pub is : s ≡ encode_of x y
