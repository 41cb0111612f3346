-- The window of an old stamp (request P12): the moment t of the stamp and RADI, both in microseconds, as a low and a
-- high end in seconds since 1970.
use Rattle.refusal.specs.declared.Refusal.{Refusal}
use Rattle.std.specs.Prelude.{ℕ, ◌+◌, ◌-◌, ◌/◌, cond, Err, Ok, Result}
use Rattle.old_stamp.specs.Stamp.{stamp_bad, stamp_code, moment_of}
use Rattle.old_stamp.specs.declared.OldWindow.{OldWindow}

-- a number of microseconds as whole seconds, rounded down,
abbrev pub floor_second : ℕ → ℕ
floor_second n = n / 1000000

-- and rounded up
abbrev pub ceiling_second : ℕ → ℕ
ceiling_second n = (n + 999999) / 1000000

-- the low end rounds down and stops at 0: a difference of natural numbers does
unfoldable pub low_at : ℕ → ℕ → ℕ
low_at t radi = floor_second (t - radi)

-- the high end rounds up
unfoldable pub high_at : ℕ → ℕ → ℕ
high_at t radi = ceiling_second (t + radi)

abbrev pub old_window_of : ℕ → ℕ → OldWindow
old_window_of stamp radi = record { low = low_at (moment_of stamp) radi; high = high_at (moment_of stamp) radi }

-- the answer: 29 where the stamp is bad, else its window
unfoldable pub stamped_of : ℕ → ℕ → Result OldWindow Refusal
stamped_of stamp radi = cond (stamp_bad stamp) (Err (stamp_code stamp)) (Ok (old_window_of stamp radi))

-- the number of an answer: 0 with the window, or the refusal's
abbrev pub stamped_number : Result OldWindow Refusal → ℕ
stamped_number (Ok w) = 0
stamped_number (Err why) = why.code
