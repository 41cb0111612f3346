-- The true time, a host's clock that goes right but for its drift, and honest servers.
-- The true time is counted in millionths of a microsecond since 1970: in whole microseconds a clock that is read at
-- every microsecond would have no room to drift at all (`whole-stuck`).
use Rattle.std.specs.Prelude.{◌≡◌, Bool, false, ◌&&◌, ℕ, ◌+◌, ◌*◌, ◌-◌, ◌≤◌, ◌<◌}
use Rattle.clock_spans.specs.Drift.{million}
use Rattle.clock_spans.specs.declared.Kept.{Kept}
use Rattle.clock_agreement.specs.Many.{many}
use Rattle.clock_agreement.specs.Count.{counted_in}
use Rattle.clock.specs.State.{newest, older}
use Rattle.clock.specs.Meaning.{spans_then}
use Rattle.clock.specs.declared.Clock.{Clock}

-- T a is the true time when the host's own clock shows a. While that clock goes on by a microsecond, the true time goes
-- on by a million parts of one, `drift` more or less (draft 19, section 6).
pub record Within (drift : ℕ) (T : ℕ → ℕ) : Type 0 where
  pub least : (a b : ℕ) → a ≤ b → T a + (b - a) * (million - drift) ≤ T b
  pub most : (a b : ℕ) → a ≤ b → T b ≤ T a + (b - a) * (million + drift)

-- A window is true: at some moment between its request and its receipt the true time was between its ends, which are in
-- seconds. A server must see to that (draft 19, 5.2.5).
pub record IsTrue (T : ℕ → ℕ) (w : Kept) : Type 0 where
  pub moment : ℕ
  pub after-sent : w.sent ≤ moment
  pub before-received : moment ≤ w.received
  pub from : w.low * (million * million) ≤ T moment
  pub to : T moment ≤ w.high * (million * million)

-- server s is honest: what is kept of it is true. A place with a MAXT of 0 has no window.
pub record Honest (T : ℕ → ℕ) (c : Clock) (s : ℕ) : Type 0 where
  pub now : 0 < (newest c s).maxt → IsTrue T (newest c s)
  pub then : 0 < (older c s).maxt → IsTrue T (older c s)

-- The state c as it may have come about: T is the true time, and the liars are any set of servers that holds whoever is
-- not honest.
pub record Story (c : Clock) (T : ℕ → ℕ) (lies : ℕ → Bool) : Type 0 where
  pub drift : Within c.drift T
  pub honest : (s : ℕ) → s < 8 → lies s ≡ false → Honest T c s

-- how many of the servers that are counted for the moment t lie
abbrev pub liars : Clock → ℕ → (ℕ → Bool) → ℕ
liars c t lies = many (λ s. counted_in (spans_then c t) s && lies s) 8
