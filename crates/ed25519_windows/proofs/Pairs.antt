-- A turn of the loop: [s]P + [k]A, a digit of both scalars more.
use Prim.Native.Nat.{ℕ, ◌+◌, ◌*◌, ◌/◌, ◌%◌, ◌≤◌, ◌<◌}
use mathlib.Core.Path.{◌≡◌}
use mathlib.Core.List.{List}
use native.Mathlib.Omega.{arith}
use lib.ListN.{drop, get_or, length}
use Rattle.ed25519_curve.specs.declared.Flat.{Flat}
use Rattle.ed25519_curve.specs.declared.Ends.{Ends}
use Rattle.ed25519_curve.specs.declared.Addend.{Addend}
use Rattle.ed25519_curve.specs.Points.{base, neutral}
use Rattle.ed25519_curve.specs.Coords.{flat_of, GoodFlat, end_of}
use Rattle.ed25519_group_laws.specs.Affine.{Affine, sum_of, zero_point, times_of, point_of}
use Rattle.ed25519_group_laws.specs.Group.{Point}
use Rattle.ed25519_group_laws.specs.Standing.{StandsFor}
use Rattle.ed25519_group_laws.proofs.Group.{sum-zero}
use Rattle.ed25519_group_laws.proofs.Times.{times_zero}
use Rattle.ed25519_group_laws.proofs.Multiples.{neutral-stands, base-stands}
use Rattle.ed25519_windows.specs.OddDigits.{plus_of, less_of, total, Recoded, Above, size_of, off_of}
use Rattle.ed25519_windows.specs.Windows.{FlatFor, RowFor, Twice, Rows, at, digit_of, WithBase, WithRow}
use Rattle.ed25519_windows.specs.Windows.{pair_of, Paired}
use Rattle.ed25519_windows.proofs.Totals.{total-drop, total-above, plus_none, less_none}
use Rattle.ed25519_windows.proofs.Coordinates.{flat-for}
use Rattle.ed25519_windows.proofs.Counts.{Counts, counts-first, counts-turn, counts-last}

-- where there is no digit nothing is added
pub no_digit : (s : Ends) (b : ℕ) (a y : Affine) → b ≡ 0 → StandsFor (end_of s) a
    → StandsFor (end_of s) (sum_of a (digit_of b y))
no_digit s b a y e h = rw (e, times_zero y, sum-zero a h.point) h

-- where there is one its row is that of its place in the table
pub odd-digit : (r : Addend) (b : ℕ) (y : Affine) → b % 2 ≡ 1 → RowFor r (times_of (2 * (b % 16 / 2) + 1) y)
    → RowFor r (times_of (size_of b) y)
odd-digit r b y o h =
    let z : 2 * (b % 16 / 2) + 1 ≡ b % 16 = omega arith in
    rw z at h

-- the rows of odd multiples of y
abbrev pub Stand : List Addend → Affine → Type 0
Stand u y = (j : ℕ) → j < 8 → RowFor (at u j) (times_of (2 * j + 1) y)

-- q is what digits make of B and y
pub record Made (q : Flat) (y : Affine) (d e : List ℕ) : Type 0 where
  pub sum : Affine
  pub flat : FlatFor q sum
  pub counts : Counts (point_of base) y (total plus_of d) (total less_of d) (total plus_of e) (total less_of e) sum

-- q is what the digits from i on make of B and A, by the table of A
pub record Sum (u : List Addend) (d e : List ℕ) (i : ℕ) (q : Flat) : Type 0 where
  pub good : GoodFlat q
  pub made : (y : Affine) → Point y → Stand u y → Made q y (drop i d) (drop i e)

pub sum_first : (u : List Addend) (d e : List ℕ) (i : ℕ) (z : Flat) → Above d i → Above e i → flat_of z 0 ≡ neutral
    → GoodFlat z → Sum u d e i z
sum_first u d e i z ad ae f g = record { good = g; made = made }
  where
    made : (y : Affine) → Point y → Stand u y → Made z y (drop i d) (drop i e)
    made y py sy = record {
      sum = zero_point;
      flat = record { t = 0; stands = rw f neutral-stands };
      counts =
          rw (
            total-above plus_of plus_none d i ad,
            total-above less_of less_none d i ad,
            total-above plus_of plus_none e i ae,
            total-above less_of less_none e i ae,
          ) (counts-first (point_of base) y base-stands.point py);
    }

-- r is twice q, and a digit of each
abbrev Turn : List Addend → ℕ → ℕ → Flat → Flat → Type 0
Turn u b e q r = (a y : Affine) → Stand u y → FlatFor q a
    → FlatFor r (sum_of (sum_of (sum_of a a) (digit_of b (point_of base))) (digit_of e y))

module _ (u : List Addend) (b e : ℕ) (q r : Flat) (m n : Ends) (two : Twice q m) (with-b : WithBase m b n) where
  -- no digit of A
  pub turn-without : flat_of r (end_of n).T ≡ end_of n → e ≡ 0 → Turn u b e q r
  turn-without is none a y sy h =
      flat-for r n _ is (no_digit n e _ y none (with-b.stands _ (two.stands a h)))

  pub turn-with : (o : Ends) → WithRow n (at u (e % 16 / 2)) (off_of e) o → flat_of r (end_of o).T ≡ end_of o → e % 2 ≡ 1
      → Turn u b e q r
  turn-with o with-e is odd a y sy h =
      flat-for r o _ is (with-e.stands _ _ (with-b.stands _ (two.stands a h))
      (odd-digit _ e y odd (sy (e % 16 / 2) (omega arith))))

pub sum-turn : (u : List Addend) (S K : ℕ) (d e : List ℕ) (i j : ℕ) (q r : Flat) → Recoded S d → Recoded K e → i ≤ 256
    → i ≡ j + 1 → Sum u d e i q → GoodFlat r → Turn u (get_or d j 0) (get_or e j 0) q r → Sum u d e j r
sum-turn u S K d e i j q r rd re low z s g turn = record { good = g; made = made }
  where
    ld : j < length d
    ld = omega (arith, rd.long)

    le : j < length e
    le = omega (arith, re.long)

    made : (y : Affine) → Point y → Stand u y → Made r y (drop j d) (drop j e)
    made y py sy =
        let h : Made q y (drop (j + 1) d) (drop (j + 1) e) = rw z at (s.made y py sy) in
        record {
          sum = _;
          flat = turn h.sum y sy h.flat;
          counts =
              rw (
                total-drop plus_of d j ld,
                total-drop less_of d j ld,
                total-drop plus_of e j le,
                total-drop less_of e j le,
              ) (counts-turn (point_of base) y base-stands.point py _ _ _ _ (get_or d j 0) (get_or e j 0) h.sum
              h.counts);
        }

pub sum-last : (u : Addend) (v : List Addend) (S K : ℕ) (d e : List ℕ) (q : Flat) → Rows u v 8 → Recoded S d
    → Recoded K e → Sum v d e 0 q → Paired u S K q
sum-last u v S K d e q ru rd re s = record { good = s.good; stands = stand }
  where
    stand : (y : Affine) → RowFor u y → FlatFor q (pair_of (point_of base) y S K)
    stand y sy =
        let h = s.made y sy.stands.point (λ j l. (ru.row j l).stands y sy) in
        let n : ℕ = total less_of d in
        let l : ℕ = total less_of e in
        let w : Counts (point_of base) y (S + n) n (K + l) l h.sum = rw (rd.is, re.is) at h.counts in
        rw (counts-last (point_of base) y base-stands.point sy.stands.point _ _ _ _ h.sum w) at h.flat
