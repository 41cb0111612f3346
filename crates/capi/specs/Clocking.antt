-- The state of a clock, which crosses the C boundary as its six fields, and a window as its five numbers.
use Rattle.refusal.specs.declared.Refusal.{Refusal}
use Rattle.std.specs.Prelude.{ℕ, List, Err, Ok, Result}
use Rattle.clock.specs.declared.Clock.{Clock}
use Rattle.clock_spans.specs.declared.Kept.{Kept}
use Rattle.c_packets.specs.Clocking.{rows_of, columns_of}
use Rattle.c_packets.specs.declared.clocking.Columns.{Columns}

-- the five arrays of the struct
abbrev pub columns : List ℕ → List ℕ → List ℕ → List ℕ → List ℕ → Columns
columns low high maxt sent received =
    record { low = low; high = high; maxt = maxt; sent = sent; received = received }

-- the state of these six
abbrev pub clock_of : ℕ → Columns → Clock
clock_of drift k = record { drift = drift; kept = rows_of k }

-- the window of these five
abbrev pub kept_of : ℕ → ℕ → ℕ → ℕ → ℕ → Kept
kept_of low high maxt sent received =
    record { low = low; high = high; maxt = maxt; sent = sent; received = received }

-- the fields after a call: those of the state that it hands out, and a refusal leaves what stood there
abbrev pub drift_after : ℕ → Result Clock Refusal → ℕ
drift_after drift (Ok c) = c.drift
drift_after drift (Err why) = drift

abbrev pub columns_after : Columns → Result Clock Refusal → Columns
columns_after k (Ok c) = columns_of c.kept
columns_after k (Err why) = k
