-- What is concluded, in sentences.
use Rattle.refusal.specs.declared.Refusal.{Refusal}
use Rattle.std.specs.Prelude.{◌≡◌, Bool, true, false, ℕ, ◌*◌, ◌-◌, ◌≤◌, ◌<◌, Err, Ok, Result}
use Rattle.clock_spans.specs.Drift.{million, last, low_later, high_later}
use Rattle.clock_spans.specs.declared.Span.{Span}
use Rattle.clock_agreement.specs.Count.{span_in}
use Rattle.clock.specs.Meaning.{spans_then}
use Rattle.clock.specs.Used.{counting_at}
use Rattle.clock.specs.declared.Clock.{Clock}
use Rattle.clock.specs.declared.Time.{Time}

-- the true time `now`, in millionths of a microsecond, is between the ends that are told; where the high one has
-- stopped at the last microsecond, it may be later
pub record Right (now : ℕ) (a : Time) : Type 0 where
  pub from : a.low * million ≤ now
  pub to : a.stopped ≡ false → now ≤ a.high * million
  pub stops : a.stopped ≡ true → a.high ≡ last

-- the true time is in a span
pub record Spans (now : ℕ) (r : Span) : Type 0 where
  pub from : r.low * million ≤ now
  pub to : r.high < last → now ≤ r.high * million

-- a server that does not lie, in whose span both the point x and the true time were when they were counted for the
-- moment t
pub record Backed (c : Clock) (t : ℕ) (T : ℕ → ℕ) (lies : ℕ → Bool) (x : ℕ) : Type 0 where
  pub server : ℕ
  pub one : server < 8
  pub honest : lies server ≡ false
  pub from : (span_in (spans_then c t) server).low ≤ x
  pub to : x ≤ (span_in (spans_then c t) server).high
  pub time : Spans (T (counting_at c t)) (span_in (spans_then c t) server)

-- the ends of a time go on from two points that are backed so
pub record Unstretched (c : Clock) (t : ℕ) (T : ℕ → ℕ) (lies : ℕ → Bool) (a : Time) : Type 0 where
  pub from : ℕ
  pub to : ℕ
  pub low-from : a.low ≡ low_later c.drift from (t - counting_at c t)
  pub high-from : a.high ≡ high_later c.drift to (t - counting_at c t)
  pub low-backed : Backed c t T lies from
  pub high-backed : Backed c t T lies to

-- two answers say the same but for the two ends: the same refusal, or the same servers
abbrev pub SameServers : Result Time Refusal → Result Time Refusal → Type 0
SameServers (Err x) (Err y) = x ≡ y
SameServers (Ok a) (Ok b) =
    (a.counted ≡ b.counted) × (a.agree ≡ b.agree) × (a.suspects ≡ b.suspects)
SameServers (Err x) (Ok b) = ⊥
SameServers (Ok a) (Err y) = ⊥
