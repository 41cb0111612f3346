-- What is answered, in sentences.
use Rattle.std.specs.Prelude.{◌≡◌, false, List, ℕ, ◌-◌, ◌≤◌}
use Rattle.clock_spans.specs.declared.Span.{Span}
use Rattle.clock_agreement.specs.Count.{count_of}
use Rattle.clock_agreement.specs.Meaning.{Agrees, Disagrees}
use Rattle.clock_agreement.specs.declared.Agreed.{Agreed}
use Rattle.clock.specs.Used.{too_early, counting_at, spans_of}
use Rattle.clock.specs.Answer.{time_of}
use Rattle.clock.specs.declared.Clock.{Clock}
use Rattle.clock.specs.declared.Time.{Time}

-- the spans when they are counted for the moment t, and how many servers are
abbrev pub spans_then : Clock → ℕ → List Span
spans_then c t = spans_of c t (counting_at c t)

abbrev pub count_then : Clock → ℕ → ℕ
count_then c t = count_of (spans_then c t)

-- a is the time at t: it goes on, by what has passed since the servers were counted, from what all but f of them agreed
-- on then
pub record IsTime (c : Clock) (t f : ℕ) (a : Time) : Type 0 where
  pub in-time : too_early c t ≡ false
  pub agreed : Agreed
  pub agrees : Agrees (spans_then c t) f agreed
  pub is : a ≡ time_of c.drift (t - counting_at c t) agreed

-- there is none at t: no more servers are counted than may lie
pub record TooFew (c : Clock) (t f : ℕ) : Type 0 where
  pub in-time : too_early c t ≡ false
  pub few : count_then c t ≤ f

-- or more are, and do not agree
pub record NoAgreement (c : Clock) (t f : ℕ) : Type 0 where
  pub in-time : too_early c t ≡ false
  pub disagrees : Disagrees (spans_then c t) f
