-- What is answered of a moment, where at most f of the servers that are counted lie.
use Rattle.refusal.specs.declared.Refusal.{Refusal}
use Rattle.std.specs.Prelude.{cond, ℕ, ◌-◌, eqb, Err, Ok, Result}
use Rattle.refusal.specs.Refusal.{refusal}
use Rattle.clock_spans.specs.Drift.{last, low_later, high_later}
use Rattle.clock_agreement.specs.Agreement.{agreement_of}
use Rattle.clock_agreement.specs.declared.Agreed.{Agreed}
use Rattle.clock.specs.Used.{too_early, counting_at, spans_of}
use Rattle.clock.specs.declared.Clock.{Clock}
use Rattle.clock.specs.declared.Time.{Time}

-- the time, once the host's clock has gone on by d since the servers were counted: its ends go on, and stop at the last
-- microsecond, which is said
abbrev pub time_of : ℕ → ℕ → Agreed → Time
time_of drift d a =
    record {
      low = low_later drift a.from d;
      high = high_later drift a.to d;
      stopped = eqb (high_later drift a.to d) last;
      counted = a.counted;
      agree = a.agree;
      suspects = a.suspects;
    }

abbrev pub later : ℕ → ℕ → Result Agreed Refusal → Result Time Refusal
later drift d (Err why) = Err why
later drift d (Ok a) = Ok (time_of drift d a)

-- 26, where the moment is before a receipt; and then what the servers agree on at the moment of counting, gone on
unfoldable pub answer_of : Clock → ℕ → ℕ → Result Time Refusal
answer_of c t f =
    cond (too_early c t) (Err (refusal 26))
    (later c.drift (t - counting_at c t) (agreement_of (spans_of c t (counting_at c t)) f))

-- its number: 0 with a time
abbrev pub number : Result Time Refusal → ℕ
number (Err why) = why.code
number (Ok a) = 0
