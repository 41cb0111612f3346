-- Tables of the odd multiples of a point.
use Prim.Native.Nat.{ℕ, ◌+◌, ◌*◌, ◌/◌, ◌%◌, ◌<◌}
use mathlib.Core.Path.{◌≡◌, ◌∙◌}
use mathlib.Core.List.{List}
use lib.ListN.{length, set, length-set}
use lib.Seq.{get_or-set_same, get_or-set_other}
use native.Mathlib.Omega.{arith}
use native.Mathlib.Decide.{ℕ_discrete}
use Rattle.ed25519_curve.specs.declared.Point.{Point as Coords}
use Rattle.ed25519_curve.specs.declared.Ends.{Ends}
use Rattle.ed25519_curve.specs.declared.Addend.{Addend}
use Rattle.ed25519_curve.specs.Points.{neutral}
use Rattle.ed25519_curve.specs.Coords.{pt_of, end_of, sum_with, Even, Cached}
use Rattle.ed25519_group_laws.specs.Affine.{Affine, sum_of, times_of}
use Rattle.ed25519_group_laws.specs.Standing.{StandsFor}
use Rattle.ed25519_group_laws.proofs.Times.{times_zero, times-one, times-add}
use Rattle.ed25519_group_laws.proofs.Multiples.{neutral-stands}
use Rattle.ed25519_windows.specs.Windows.{RowFor, Multiple, Rows, at}
use Rattle.ed25519_windows.proofs.Coordinates.{summed-stands, row-for}

-- q is the j-fold of what r is
abbrev pub Fold : Addend → Coords → ℕ → Type 0
Fold r q j = (a : Affine) → RowFor r a → StandsFor (pt_of q) (times_of j a)

pub fold-first : (r : Addend) (z : Coords) → pt_of z ≡ neutral → Fold r z 0
fold-first r z e a h = rw (e, times_zero a) neutral-stands

-- a row added
pub fold-sum : (r : Addend) (q n : Coords) (s : Addend) (e : Ends) (i j k : ℕ) → Fold r q i → Multiple r s j
    → end_of e ≡ sum_with q s → pt_of n ≡ end_of e → k ≡ i + j → Fold r n k
fold-sum r q n s e i j k f g sum is z a h =
    let w : StandsFor (end_of e) (sum_of (times_of i a) (times_of j a)) =
    summed-stands q s e (times_of i a) (times_of j a) (f a h) (g.stands a h) sum in
    rw (z, is, times-add i j a h.stands.point) w

-- a row is that of the onefold
pub itself : (r : Addend) → Even r → Multiple r r 1
itself r e = record { even = e; stands = λ a h. rw (times-one a h.stands.point) h }

pub multiple : (r : Addend) (q : Coords) (s : Addend) (j : ℕ) → Cached (pt_of q) s → Fold r q j → Multiple r s j
multiple r q s j c f = record { even = c.even; stands = λ a h. row-for q s (times_of j a) c (f a h) }

-- the rows of a table, one after the other
pub first-row : (r : Addend) (t : List Addend) → length t ≡ 8 → at t 0 ≡ r → Even r → Rows r t 1
first-row r t h e even = record { long = h; row = zeroth }
  where
    zeroth : (j : ℕ) → j < 1 → Multiple r (at t j) (2 * j + 1)
    zeroth j k = let q : j ≡ 0 = omega arith in rw (q, e) (itself r even)

pub next_row : (r s : Addend) (t : List Addend) (i : ℕ) → i < 8 → Rows r t i → Multiple r s (2 * i + 1)
    → Rows r (set t i s) (i + 1)
next_row r s t i low rs m = record { long = length-set t i s ∙ rs.long; row = row_at }
  where
    row_at : (j : ℕ) → j < i + 1 → Multiple r (at (set t i s) j) (2 * j + 1)
    row_at j h = elim (ℕ_discrete j i) [
      | yes q ↦ rw (q, get_or-set_same t i s _ (omega (arith, rs.long))) m
      | no q ↦ rw (get_or-set_other t i j s _ q) (rs.row j (omega arith))
    ]

-- a digit's row may be added
pub row-even : (r : Addend) (t : List Addend) (b : ℕ) → Rows r t 8 → Even (at t (b % 16 / 2))
row-even r t b rs = (rs.row (b % 16 / 2) (omega arith)).even
