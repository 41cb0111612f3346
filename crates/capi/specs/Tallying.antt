-- The state of the one pass, which crosses the C boundary as the number that it keeps.
use Rattle.std.specs.Prelude.{ℕ, Bool}
use Rattle.pile_tally.specs.declared.Tally.{Tally}
use Rattle.pile_tally.specs.declared.Tallied.{Tallied}

-- the state that keeps this number
abbrev pub keeping : ℕ → Tally
keeping most = record { most = most }

-- a taker that leaves this number and answers so
abbrev pub answering : ℕ → Bool → Tallied
answering most contradicts = record { tally = keeping most; contradicts = contradicts }
