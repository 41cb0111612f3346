-- What an answer hands out of DELE, which crosses the C boundary as its three fields.
use Rattle.std.specs.Prelude.{ℕ, List}
use Rattle.check_reuse.specs.declared.Delegation.{Delegation}

-- the DELE of these three
abbrev pub delegation_of : List ℕ → ℕ → ℕ → Delegation
delegation_of pubk mint maxt = record { pubk = pubk; mint = mint; maxt = maxt }
