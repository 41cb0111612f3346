-- The points that the code's limbs stand for. For contracts of helpers.
use Rattle.std.specs.Prelude.{ℕ, ◌≤◌, ◌≡◌, [], ◌∷◌}
use Rattle.ed25519_field.specs.Field.{p, add_f, sub_f, mul_f}
use Rattle.ed25519_field.specs.Limbs.{num, Limbs}
use Rattle.ed25519_curve.specs.declared.Point.{Point}
use Rattle.ed25519_curve.specs.declared.Flat.{Flat}
use Rattle.ed25519_curve.specs.declared.Ends.{Ends}
use Rattle.ed25519_curve.specs.declared.Addend.{Addend}
use Rattle.ed25519_curve.specs.declared.Thin.{Thin}
use Rattle.ed25519_curve.specs.Points.{Pt, two_d, finish_of, add_with, point_double}

abbrev pub pt_of : Point → Pt
pt_of q = record { X = num q.x; Y = num q.y; Z = num q.z; T = num q.t }

-- all coordinates as a multiplication leaves them
pub record Good (q : Point) : Type 0 where
  pub x : Limbs 1 q.x
  pub y : Limbs 1 q.y
  pub z : Limbs 1 q.z
  pub t : Limbs 1 q.t

-- the same without T, which is said beside it
abbrev pub flat_of : Flat → ℕ → Pt
flat_of q t = record { X = num q.x; Y = num q.y; Z = num q.z; T = t }

pub record GoodFlat (q : Flat) : Type 0 where
  pub x : Limbs 1 q.x
  pub y : Limbs 1 q.y
  pub z : Limbs 1 q.z

-- a point as E, F, G and H, which may be multiplied
abbrev pub end_of : Ends → Pt
end_of s = finish_of (num s.e) (num s.f) (num s.g) (num s.h)

pub record Loose (s : Ends) : Type 0 where
  pub e : Limbs 8 s.e
  pub f : Limbs 8 s.f
  pub g : Limbs 8 s.g
  pub h : Limbs 8 s.h

-- R is the double of every point with these X, Y and Z
pub record Doubled (X Y Z : ℕ) (R : Pt) : Type 0 where
  pub is : (t : ℕ) → R ≡ point_double (record { X = X; Y = Y; Z = Z; T = t })

-- a row of a point with Z = 1 as a whole one, whose 2 Z is 2
abbrev pub whole_of : Thin → Addend
whole_of r = record { minus = r.minus; plus = r.plus; twice = 2 ∷ 0 ∷ 0 ∷ 0 ∷ 0 ∷ []; scaled = r.scaled }

-- a point with a row's point added
abbrev pub sum_with : Point → Addend → Pt
sum_with q r =
    add_with
    (mul_f (sub_f (num q.y) (num q.x)) (num r.minus))
    (mul_f (add_f (num q.y) (num q.x)) (num r.plus))
    (mul_f (num q.t) (num r.scaled))
    (mul_f (num q.z) (num r.twice))

-- a row that may be multiplied
pub record Even (r : Addend) : Type 0 where
  pub minus : Limbs 3 r.minus
  pub plus : Limbs 3 r.plus
  pub twice : Limbs 2 r.twice
  pub scaled : Limbs 1 r.scaled

-- the row of P
pub record Cached (P : Pt) (r : Addend) : Type 0 where
  pub minus_is : num r.minus ≡ sub_f P.Y P.X
  pub plus-is : num r.plus ≡ add_f P.Y P.X
  pub twice-is : num r.twice ≡ add_f P.Z P.Z
  pub scaled-is : num r.scaled ≡ mul_f P.T two_d
  pub even : Even r

-- -(x, y) = (-x, y)
abbrev pub opposite_of : Pt → Pt
opposite_of P = record { X = sub_f 0 P.X; Y = P.Y; Z = P.Z; T = sub_f 0 P.T }

-- s is the row of the opposite of any point of which r is the row
pub record Opposed (r s : Addend) : Type 0 where
  pub even : Even r → Even s
  pub is : (P : Pt) → P.X ≤ p → P.T ≤ p → Cached P r → Cached (opposite_of P) s
