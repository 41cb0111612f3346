-- What the two ends are, over any moment and radius in microseconds; and what the moment of a stamp is.
use Prim.Native.Nat.{ℕ, ◌+◌, ◌-◌, ◌*◌, ◌^◌, ◌≤◌, ◌<◌}
use mathlib.Core.Path.{◌≡◌, refl, sym, ap₂, ◌∙◌}
use mathlib.Core.Bool.{Bool, true, false}
use native.Mathlib.Omega.{arith}
use native.Mathlib.Nat.{le_antisymm}
use borrow.Author.Tests.{leb-true, leb-false}
use lib.Arith.{digits_div, digits_mod}
use lib.Dec.{leb}
use Rattle.old_stamp.specs.Stamp.{date_of, micros_of, moment_at, moment_of}
use Rattle.old_stamp.specs.Window.{low_at, high_at, old_window_of}
use Rattle.old_stamp.specs.Meaning.{IsLow, IsHigh}

module _ (t radi : ℕ) where
  -- the low end is the largest whole second not after the interval's start, or 0,
  pub low-is : IsLow t radi (low_at t radi)
  unfolding low_at
  low-is = record { not_after = λ h. omega arith; largest = λ s h. omega arith; stops = λ h. omega arith }

  -- the high end the smallest not before its end,
  pub high_is : IsHigh t radi (high_at t radi)
  unfolding high_at
  high_is = record { not-before = omega arith; smallest = λ s h. omega arith }

  -- and no other numbers are
  pub low-only : (n : ℕ) → IsLow t radi n → n ≡ low_at t radi
  low-only n i = by (leb radi t) refl
    where
      by : (b : Bool) → leb radi t ≡ b → n ≡ low_at t radi
      by true e =
          let h = leb-true radi t e in
          le_antisymm (low-is.largest n (i.not_after h)) (i.largest _ (low-is.not_after h))
      by false e = let h = leb-false radi t e in i.stops h ∙ sym (low-is.stops h)

  pub high-only : (n : ℕ) → IsHigh t radi n → n ≡ high_at t radi
  high-only n i = le_antisymm (i.smallest _ high_is.not-before) (high_is.smallest n i.not-before)

  -- the low end is at most the high end
  pub low-high : low_at t radi ≤ high_at t radi
  unfolding low_at high_at
  low-high = omega arith

-- whole seconds and a radius of whole seconds give them exactly
pub whole-low : (s k : ℕ) → low_at (s * 1000000) (k * 1000000) ≡ s - k
whole-low s k =
    sym
    (low-only _ _ (s - k)
    (record { not_after = λ h. omega arith; largest = λ m h. omega arith; stops = λ h. omega arith }))

pub whole-high : (s k : ℕ) → high_at (s * 1000000) (k * 1000000) ≡ s + k
whole-high s k = sym (high-only _ _ (s + k) (record { not-before = omega arith; smallest = λ m h. omega arith }))

-- the moment of the stamp that has s whole seconds of a day, the midnight that ends the day too
pub whole-moment : (date s : ℕ) → s ≤ 86400
    → moment_of (date * 2 ^ 40 + s * 1000000) ≡ ((date - 40587) * 86400 + s) * 1000000
whole-moment date s h =
    let l : s * 1000000 < 2 ^ 40 = omega arith in
    ap₂ moment_at (digits_div date l) (digits_mod date l) ∙ omega arith

-- so the window of such a stamp and such a radius is whole seconds
pub whole-seconds : (date s k : ℕ) → s ≤ 86400
    → old_window_of (date * 2 ^ 40 + s * 1000000) (k * 1000000)
    ≡ record { low = (date - 40587) * 86400 + s - k; high = (date - 40587) * 86400 + s + k }
whole-seconds date s k h =
    rw (whole-moment date s h, whole-low ((date - 40587) * 86400 + s) k, whole-high ((date - 40587) * 86400 + s) k) refl

-- a leap second is the next midnight, whatever its microseconds are
pub leap-midnight : (stamp : ℕ) → 40587 ≤ date_of stamp → 86400000000 ≤ micros_of stamp
    → moment_of stamp ≡ moment_of ((date_of stamp + 1) * 2 ^ 40)
leap-midnight stamp d h = omega arith

-- nothing wraps: the largest number on the way to either end, for any u64 and u32
pub nothing-wraps : (stamp radi : ℕ) → stamp < 2 ^ 64 → radi < 2 ^ 32 → moment_of stamp + radi + 999999 < 2 ^ 64
nothing-wraps stamp radi h l = omega arith
