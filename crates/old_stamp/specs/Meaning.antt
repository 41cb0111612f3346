-- The request's sentences: when a stamp is refused, and what the two ends are, in whole numbers of microseconds. The
-- interval of a moment t and a radius goes from t - radi to t + radi.
use Rattle.std.specs.Prelude.{ℕ, ◌+◌, ◌*◌, ◌≤◌, ◌<◌, ◌≡◌, ◌⊎◌}
use Rattle.old_stamp.specs.Stamp.{date_of, micros_of, moment_of}
use Rattle.old_stamp.specs.declared.OldWindow.{OldWindow}

-- a date under 40587, or microseconds of 86,401,000,000 or more
abbrev pub BadStamp : ℕ → Type 0
BadStamp stamp = (date_of stamp < 40587) ⊎ (86401000000 ≤ micros_of stamp)

-- neither
pub record GoodStamp (stamp : ℕ) : Type 0 where
  pub date : 40587 ≤ date_of stamp
  pub micros : micros_of stamp < 86401000000

-- the whole second s is not after the interval's start: s seconds are at most t - radi in whole numbers
abbrev pub NotAfterStart : ℕ → ℕ → ℕ → Type 0
NotAfterStart t radi s = s * 1000000 + radi ≤ t

-- it is not before the interval's end
abbrev pub NotBeforeEnd : ℕ → ℕ → ℕ → Type 0
NotBeforeEnd t radi s = t + radi ≤ s * 1000000

-- the low end: the largest whole second not after the interval's start, or 0 where that is before 1970
pub record IsLow (t radi low : ℕ) : Type 0 where
  pub not_after : radi ≤ t → NotAfterStart t radi low
  pub largest : (s : ℕ) → NotAfterStart t radi s → s ≤ low
  pub stops : t < radi → low ≡ 0

-- the high end: the smallest whole second not before the interval's end
pub record IsHigh (t radi high : ℕ) : Type 0 where
  pub not-before : NotBeforeEnd t radi high
  pub smallest : (s : ℕ) → NotBeforeEnd t radi s → high ≤ s

-- the stamp is a good one, and w has both ends of its interval
pub record IsWindow (stamp radi : ℕ) (w : OldWindow) : Type 0 where
  pub good : GoodStamp stamp
  pub low_end : IsLow (moment_of stamp) radi w.low
  pub high_end : IsHigh (moment_of stamp) radi w.high
