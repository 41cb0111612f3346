-- The table of the comb, and how a row of it is chosen.
use Prim.Native.Nat.{ℕ, ◌^◌, ◌<◌}
use mathlib.Core.Path.{◌≡◌}
use mathlib.Core.Bool.{Bool, true, false, cond}
use mathlib.Core.List.{List}
use lib.Dec.{T, ltb, ltb→lt}
use lib.ListN.{get_or}
use Rattle.digits.specs.Digits.{value}
use Rattle.ed25519_curve.specs.declared.Thin.{Thin}
use Rattle.ed25519_curve.specs.Coords.{whole_of}
use Rattle.ed25519_windows.specs.Windows.{BaseRow}
use Rattle.ed25519_windows.proofs.BaseRows.{all, all-at, holds, row-stands}
use Rattle.ed25519_base.specs.Comb.{teeth_of}

teeth-low : (k : ℕ) → k < 16 → teeth_of k < 2 ^ 256
unfolding teeth_of value
teeth-low k h = ltb→lt (teeth_of k) (2 ^ 256) (all-at (λ j. ltb (teeth_of j) (2 ^ 256)) 16 tt k h)

-- a table that passes the test of each of its rows
pub comb-rows : (t : List Thin) (r : Thin) → T (all (λ k. holds (teeth_of k) (get_or t k r)) 16) → (k : ℕ) → k < 16
    → BaseRow (teeth_of k) (whole_of (get_or t k r))
comb-rows t r ok k h =
    row-stands (teeth_of k) (get_or t k r) (teeth-low k h) (all-at (λ j. holds (teeth_of j) (get_or t j r)) 16 ok k h)

-- one of two rows, limbs by limbs
pub row-picked : (t : Bool) (a b : Thin) (m p s : List ℕ) → m ≡ cond t b.minus a.minus
    → p ≡ cond t b.plus a.plus → s ≡ cond t b.scaled a.scaled
    → record { minus = m; plus = p; scaled = s } ≡ cond t b a
row-picked true a b m p s em ep es = rw (em, ep, es)
row-picked false a b m p s em ep es = rw (em, ep, es)
