-- When a stamp is bad, and the two clauses that follow for its answer.
use Rattle.old_stamp.specs.declared.OldWindow.{OldWindow}
use Rattle.refusal.specs.declared.Refusal.{Refusal}
use Rattle.std.specs.Prelude.{Err, Ok, Result}
use Prim.Native.Nat.{ℕ, ◌+◌, ◌-◌, ◌≤◌, ◌<◌}
use mathlib.Core.Path.{◌≡◌, refl}
use mathlib.Core.Bool.{true, false}
use borrow.Author.Tests.{lt-ltb, le-ltb, le-leb, lt-leb}
use Rattle.laws.specs.First.{when_of}
use Rattle.laws.proofs.Any.{any_here, any-later, any-not, any_none}
use Rattle.refusal.specs.Refusal.{refusal}
use Rattle.old_stamp.specs.Stamp.{date_of, micros_of, moment_of, stamp_bad, stamp_code}
use Rattle.old_stamp.specs.Window.{low_at, high_at, stamped_of, stamped_number}

-- a date under 40587 is bad,
pub early-bad : (stamp : ℕ) → date_of stamp < 40587 → stamp_bad stamp ≡ true
unfolding stamp_bad
early-bad stamp h = any_here _ (lt-ltb _ 40587 h)

-- so are microseconds of 86,401,000,000 or more,
pub late-bad : (stamp : ℕ) → 86401000000 ≤ micros_of stamp → stamp_bad stamp ≡ true
unfolding stamp_bad
late-bad stamp h = any-later _ _ (any_here _ (le-leb 86401000000 _ h))

-- and nothing else is
pub else-good : (stamp : ℕ) → 40587 ≤ date_of stamp → micros_of stamp < 86401000000 → stamp_bad stamp ≡ false
unfolding stamp_bad
else-good stamp h l = any-not _ (le-ltb _ 40587 h) (any-not _ (lt-leb 86401000000 _ l) any_none)

-- both clauses of `old_window`, of an answer x
abbrev pub Answers : ℕ → ℕ → Result OldWindow Refusal → Type 0
Answers stamp radi x = (stamped_number x ≡ (stamp_code stamp).code) × (x ≡ stamped_of stamp radi)

pub bad-answers : (stamp radi : ℕ) → stamp_bad stamp ≡ true → {x : Result OldWindow Refusal} → x ≡ Err (refusal 29)
    → Answers stamp radi x
unfolding stamped_of when_of
bad-answers stamp radi b e = rw (e, b) (refl, refl)

-- of a good stamp: low is the floor of some t - r which is the interval's start, high the ceiling of some u + s which
-- is its end
pub good-answers : (stamp radi t r u s : ℕ) → stamp_bad stamp ≡ false → {low high : ℕ} → low ≡ low_at t r
    → t - r ≡ moment_of stamp - radi → high ≡ high_at u s → u + s ≡ moment_of stamp + radi
    → Answers stamp radi (Ok (record { low = low; high = high }))
unfolding stamped_of when_of low_at high_at
good-answers stamp radi t r u s b l start h end = rw (l, start, h, end, b) (refl, refl)
