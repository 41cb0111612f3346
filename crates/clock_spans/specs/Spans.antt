-- The span of a kept window, and that of a server, at a moment of the host's own clock. A window's ends are those of a
-- valid response, in seconds, and the true time was between them at some moment between its request and its receipt
-- (draft 19, 5.2.5).
use Rattle.std.specs.Prelude.{Bool, true, false, cond, ◌&&◌, ◌||◌, ℕ, ◌*◌, ◌-◌, ◌/◌, min, max, leb, ltb}
use Rattle.clock_spans.specs.Drift.{million, last, low_later, high_later}
use Rattle.clock_spans.specs.declared.Kept.{Kept}
use Rattle.clock_spans.specs.declared.Span.{Span}

-- ---- of a window

-- its low end, and what has passed since it was received
unfoldable pub low_at : ℕ → Kept → ℕ → ℕ
low_at drift w t = low_later drift (w.low * million) (t - w.received)

-- its high end, and what has passed since its request was first sent
unfoldable pub high_at : ℕ → Kept → ℕ → ℕ
high_at drift w t = high_later drift (w.high * million) (t - w.sent)

-- A window is used at the moment t where its own high end is not past MAXT then, in whole seconds; MAXT itself is not
-- past (request P9). A place of the state whose MAXT is 0 has no window: no response with that MAXT is of use, since
-- its RADI is not 0.
unfoldable pub used_at : ℕ → Kept → ℕ → Bool
used_at drift w t = ltb 0 w.maxt && leb (high_at drift w t / million) w.maxt

-- of what nothing is said: it is not counted, and any time is possible
abbrev pub unknown : Span
unknown = record { counted = false; low = 0; high = last }

-- what a window that is used at the moment t says of the moment of counting
unfoldable pub span_at : ℕ → ℕ → ℕ → Kept → Span
span_at drift t counting w =
    cond (used_at drift w t) (record { counted = true; low = low_at drift w counting; high = high_at drift w counting })
    unknown

-- ---- of a server: what all its windows that are used allow

abbrev pub meet : Span → Span → Span
meet a b = record { counted = a.counted || b.counted; low = max a.low b.low; high = min a.high b.high }

unfoldable pub server_span : ℕ → ℕ → ℕ → Kept → Kept → Span
server_span drift t counting newest older = meet (span_at drift t counting newest) (span_at drift t counting older)
