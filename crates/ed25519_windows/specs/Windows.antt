-- Multiples of points in any coordinates. For contracts of helpers.
use Rattle.std.specs.Prelude.{ℕ, ◌+◌, ◌*◌, ◌≤◌, ◌<◌, ◌≡◌, Bool, cond, List, [], length, get_or}
use Rattle.ed25519_field.specs.Field.{p}
use Rattle.ed25519_curve.specs.declared.Flat.{Flat}
use Rattle.ed25519_curve.specs.declared.Ends.{Ends}
use Rattle.ed25519_curve.specs.declared.Addend.{Addend}
use Rattle.ed25519_curve.specs.Points.{Pt, base}
use Rattle.ed25519_curve.specs.Coords.{flat_of, GoodFlat, end_of, Loose, Even, Cached}
use Rattle.ed25519_group_laws.specs.Affine.{Affine, sum_of, times_of, point_of}
use Rattle.ed25519_group_laws.specs.Group.{minus_of}
use Rattle.ed25519_group_laws.specs.Standing.{StandsFor}
use Rattle.ed25519_windows.specs.OddDigits.{size_of, off_of}

-- coordinates without T stand for a point, with some T
pub record FlatFor (q : Flat) (a : Affine) : Type 0 where
  pub t : ℕ
  pub stands : StandsFor (flat_of q t) a

-- a row is that of coordinates that stand for a point
pub record RowFor (r : Addend) (a : Affine) : Type 0 where
  pub P : Pt
  pub low : P.T ≤ p
  pub cached : Cached P r
  pub stands : StandsFor P a

-- r is twice what q is
pub record Twice (q : Flat) (r : Ends) : Type 0 where
  pub loose : Loose r
  pub stands : (a : Affine) → FlatFor q a → StandsFor (end_of r) (sum_of a a)

-- the point a, or its opposite
abbrev pub side_of : Bool → Affine → Affine
side_of off a = cond off (minus_of a) a

-- s is the row r, or its opposite
pub record Turned (off : Bool) (r s : Addend) : Type 0 where
  pub even : Even s
  pub stands : (a : Affine) → RowFor r a → RowFor s (side_of off a)

abbrev pub at : List Addend → ℕ → Addend
at t j = get_or t j (record { minus = []; plus = []; twice = []; scaled = [] })

-- s is the row of the j-fold of what r is
pub record Multiple (r s : Addend) (j : ℕ) : Type 0 where
  pub even : Even s
  pub stands : (a : Affine) → RowFor r a → RowFor s (times_of j a)

-- the first n rows of a table of odd multiples
pub record Rows (r : Addend) (t : List Addend) (n : ℕ) : Type 0 where
  pub long : length t ≡ 8
  pub row : (j : ℕ) → j < n → Multiple r (at t j) (2 * j + 1)

-- r is the row of [n]B
pub record BaseRow (n : ℕ) (r : Addend) : Type 0 where
  pub even : Even r
  pub stands : RowFor r (times_of n (point_of base))

-- the multiple of a point that a digit is
abbrev pub digit_of : ℕ → Affine → Affine
digit_of b a = side_of (off_of b) (times_of (size_of b) a)

-- r is m with a digit's multiple of B
pub record WithBase (m : Ends) (b : ℕ) (r : Ends) : Type 0 where
  pub loose : Loose r
  pub stands : (a : Affine) → StandsFor (end_of m) a → StandsFor (end_of r) (sum_of a (digit_of b (point_of base)))

-- r is m with the point of a row, or its opposite
pub record WithRow (m : Ends) (y : Addend) (off : Bool) (r : Ends) : Type 0 where
  pub loose : Loose r
  pub stands : (a b : Affine) → StandsFor (end_of m) a → RowFor y b → StandsFor (end_of r) (sum_of a (side_of off b))

-- [s]P + [k]Q, of the points P and Q
abbrev pub pair_of : Affine → Affine → ℕ → ℕ → Affine
pair_of a b s k = sum_of (times_of s a) (times_of k b)

-- r is [s]B + [k]A, where u is the row of A
pub record Paired (u : Addend) (s k : ℕ) (r : Flat) : Type 0 where
  pub good : GoodFlat r
  pub stands : (y : Affine) → RowFor u y → FlatFor r (pair_of (point_of base) y s k)

-- P stands for the point of its own X and Y, as what is decoded does
abbrev pub Itself : Pt → Type 0
Itself P = StandsFor P (point_of P)
