-- What a clock takes of a measuring walk (draft 19, 8.2): the window of each response that the walk has accepted, in
-- their order, whether the walk has ended or stands still at a silent server. Record k of its pile is that of response
-- k, which is of server k in the first round and in the second (`InStep` of the walk).
use Rattle.std.specs.Prelude.{List, ℕ, ◌+◌, ◌%◌, ◌≤◌}
use Rattle.check_response.specs.Check.{window_in}
use Rattle.check_response.specs.declared.Window.{Window}
use Rattle.wire_packet.specs.Packet.{body}
use Rattle.pile.specs.Pile.{record_at, response_packet}
use Rattle.clock_spans.specs.declared.Kept.{Kept}
use Rattle.walk.specs.declared.Walk.{Walk}
use Rattle.clock_laws.specs.History.{Heard}

-- the window of record k
abbrev pub window_of : List ℕ → ℕ → Window
window_of pile k = window_in (body (response_packet (record_at pile k)))

-- with when its request was first sent and when it was received, in microseconds of the host's own clock
abbrev pub kept_of : Window → ℕ → ℕ → Kept
kept_of w sent received =
    record { low = w.low; high = w.high; maxt = w.maxt; sent = sent; received = received }

abbrev pub walked : Walk → List ℕ → (ℕ → ℕ) → (ℕ → ℕ) → ℕ → Heard
walked w pile sent received k =
    record { server = k % w.count; window = kept_of (window_of pile k) (sent k) (received k) }

-- the walk asks one after the other
pub record InTurn (sent received : ℕ → ℕ) : Type 0 where
  pub answered : (k : ℕ) → sent k ≤ received k
  pub next : (k : ℕ) → received k ≤ sent (k + 1)
