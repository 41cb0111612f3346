-- The two ways out of `point_equal`.
use mathlib.Core.Path.{◌≡◌}
use mathlib.Core.Bool.{Bool, true, false}
use lib.Dec.{eqb}
use Rattle.ed25519_field.specs.Field.{mul_f}
use Rattle.ed25519_curve.specs.Points.{Pt, point_equal}

pub equal-1 : (P Q : Pt) (a b : Bool) → a ≡ eqb (mul_f P.X Q.Z) (mul_f Q.X P.Z) → a ≡ true
    → b ≡ eqb (mul_f P.Y Q.Z) (mul_f Q.Y P.Z) → b ≡ point_equal P Q
unfolding point_equal
equal-1 P Q a b e t f = rw (← e, t) f

pub equal-2 : (P Q : Pt) (a : Bool) → a ≡ eqb (mul_f P.X Q.Z) (mul_f Q.X P.Z) → a ≡ false
    → false ≡ point_equal P Q
unfolding point_equal
equal-2 P Q a e t = rw (← e, t)
