-- The state of a hash in pieces, which crosses the C boundary as its three fields.
use Rattle.std.specs.Prelude.{ℕ, List}
use Rattle.sha512.specs.declared.Running.{Running}

-- the state of these three
abbrev pub running_of : List ℕ → List ℕ → ℕ → Running
running_of h rest count = record { h = h; rest = rest; count = count }
