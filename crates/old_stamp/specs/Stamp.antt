-- A timestamp of the 2021 draft (source document 002, 5.1.5) as a number of microseconds since 1970 (request P12).
use Rattle.std.specs.Prelude.{ℕ, ◌+◌, ◌-◌, ◌*◌, ◌/◌, ◌%◌, ◌^◌, min, Bool, [], ◌∷◌, ltb, leb}
use Rattle.laws.specs.Any.{any}
use Rattle.refusal.specs.Refusal.{when}
use Rattle.refusal.specs.declared.Refusal.{Refusal}

-- the top 3 bytes of the 8 are a Modified Julian Date
abbrev pub date_of : ℕ → ℕ
date_of stamp = stamp / 2 ^ 40

-- the low 5 bytes are microseconds of that day
abbrev pub micros_of : ℕ → ℕ
micros_of stamp = stamp % 2 ^ 40

-- 29: a date under 40587, or microseconds of 86,401,000,000 or more
unfoldable pub stamp_bad : ℕ → Bool
stamp_bad stamp = any (ltb (date_of stamp) 40587 ∷ leb 86401000000 (micros_of stamp) ∷ [])

abbrev pub stamp_code : ℕ → Refusal
stamp_code stamp = when (stamp_bad stamp) 29

-- microseconds from 86,400,000,000 up, a leap second, are all read as 86,400,000,000, the next midnight
abbrev pub read_micros : ℕ → ℕ
read_micros micros = min micros 86400000000

-- microseconds since 1970: MJD 40587 is day zero, and a day has 86,400 seconds
abbrev pub moment_at : ℕ → ℕ → ℕ
moment_at date micros = (date - 40587) * 86400000000 + read_micros micros

abbrev pub moment_of : ℕ → ℕ
moment_of stamp = moment_at (date_of stamp) (micros_of stamp)
