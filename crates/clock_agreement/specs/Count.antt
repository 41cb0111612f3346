-- Counting (Marzullo 1984): the least and the greatest point that lies in the spans of enough servers, and which
-- servers agree with what lies between. A point is a number of microseconds since 1970 below 2^64.
use Rattle.std.specs.Prelude.{Bool, false, ◌&&◌, List, ℕ, ◌-◌, ◌^◌, min, max, leb, ltb, get_or}
use Rattle.laws.specs.Least.{least}
use Rattle.clock_spans.specs.Drift.{last}
use Rattle.clock_spans.specs.declared.Span.{Span}
use Rattle.clock_agreement.specs.Many.{many}

abbrev pub points : ℕ
points = 2 ^ 64

-- ---- one server's span

-- it is counted, and the point x lies in it
abbrev pub in_span : ℕ → Span → Bool
in_span x r = r.counted && (leb r.low x && leb x r.high)

-- it is counted, and some point from low to high lies in it; or none does
abbrev pub meets : ℕ → ℕ → Span → Bool
meets low high r = r.counted && leb (max low r.low) (min high r.high)

abbrev pub misses : ℕ → ℕ → Span → Bool
misses low high r = r.counted && ltb (min high r.high) (max low r.low)

-- ---- the eight

-- Nothing is read past the end of an array; there this says what the kit's own definition of a read says.
abbrev pub span_in : List Span → ℕ → Span
span_in spans s = get_or spans s (record { counted = false; low = 0; high = 0 })

abbrev pub counted_in : List Span → ℕ → Bool
counted_in spans s = (span_in spans s).counted

-- how many servers are counted
unfoldable pub count_of : List Span → ℕ
count_of spans = many (counted_in spans) 8

-- in how many servers' spans the point x lies
unfoldable pub depth_of : List Span → ℕ → ℕ
depth_of spans x = many (λ s. in_span x (span_in spans s)) 8

-- in n of them or more
abbrev pub enough : List Span → ℕ → ℕ → Bool
enough spans n x = leb n (depth_of spans x)

-- the least such point, and the last point where there is none
unfoldable pub lowest_of : List Span → ℕ → ℕ
lowest_of spans n = min last (least (enough spans n) points)

-- the greatest such point, and 0 where there is none: the least, counted from the last point down
unfoldable pub highest_of : List Span → ℕ → ℕ
highest_of spans n = last - least (λ d. enough spans n (last - d)) points

-- server s agrees with the time from low to high, or is suspect
abbrev pub agreeing : List Span → ℕ → ℕ → ℕ → Bool
agreeing spans low high s = meets low high (span_in spans s)

abbrev pub suspect : List Span → ℕ → ℕ → ℕ → Bool
suspect spans low high s = misses low high (span_in spans s)
