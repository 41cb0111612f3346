-- How much time passes while the host's own clock goes on (draft 19, section 6): its frequency is wrong by at most phi,
-- here `drift` millionths. Times are in microseconds, and what is rounded is rounded outwards.
use Rattle.std.specs.Prelude.{ℕ, ◌+◌, ◌*◌, ◌-◌, ◌/◌, ◌^◌, min}

-- microseconds of a second, and parts of a whole
abbrev pub million : ℕ
million = 1000000

-- the last microsecond that is told
abbrev pub last : ℕ
last = 2 ^ 64 - 1

-- while the host's clock goes on by d there passes at least d less the drift, rounded down; a difference of natural
-- numbers stops at 0
unfoldable pub least_passed : ℕ → ℕ → ℕ
least_passed drift d = d * (million - drift) / million

-- and at most d and the drift, rounded up
unfoldable pub most_passed : ℕ → ℕ → ℕ
most_passed drift d = (d * (million + drift) + (million - 1)) / million

-- a time that was at least `low`, and one that was at most `high`, when the host's clock has gone on by d: these ends
-- stop at the last microsecond
unfoldable pub low_later : ℕ → ℕ → ℕ → ℕ
low_later drift low d = min last (low + least_passed drift d)

unfoldable pub high_later : ℕ → ℕ → ℕ → ℕ
high_later drift high d = min last (high + most_passed drift d)
