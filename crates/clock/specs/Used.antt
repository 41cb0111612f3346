-- What the state says of the moment t that is asked about: which windows are used, and when the servers are counted.
-- That is the newest receipt among the windows that are used, and not t: counted at t, two servers that contradict each
-- other would come to agree, as the drift widens what both say.
use Rattle.std.specs.Prelude.{Bool, cond, List, ℕ, zero, suc, max, ltb}
use Rattle.laws.specs.Least.{somewhere}
use Rattle.laws.specs.Upto.{upto}
use Rattle.clock_spans.specs.Spans.{used_at, server_span}
use Rattle.clock_spans.specs.declared.Span.{Span}
use Rattle.clock.specs.State.{kept_in, newest, older}
use Rattle.clock.specs.declared.Clock.{Clock}

-- t is before the receipt of a window that is kept
unfoldable pub too_early : Clock → ℕ → Bool
too_early c t = somewhere (λ i. ltb t (kept_in c i).received) 16

-- window i is used at t
abbrev pub used_in : Clock → ℕ → ℕ → Bool
used_in c t i = used_at c.drift (kept_in c i) t

-- the newest receipt among the first n windows that are used at t, and 0 where none is
unfoldable pub newest_used : Clock → ℕ → ℕ → ℕ
newest_used c t zero = 0
newest_used c t (suc n) = cond (used_in c t n) (max (newest_used c t n) (kept_in c n).received) (newest_used c t n)

-- the moment of counting
abbrev pub counting_at : Clock → ℕ → ℕ
counting_at c t = newest_used c t 16

-- the span of server s then, by its windows that are used at t
unfoldable pub span_of : Clock → ℕ → ℕ → ℕ → Span
span_of c t counting s = server_span c.drift t counting (newest c s) (older c s)

-- those of the eight
unfoldable pub spans_of : Clock → ℕ → ℕ → List Span
spans_of c t counting = upto (span_of c t counting) 8
