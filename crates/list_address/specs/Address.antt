-- An address of a server: "a host and a port number, separated by a colon character" (draft 19, section 8.3).
use Prim.Native.Char.{code}
use Rattle.std.specs.Prelude.{ℕ, ◌+◌, Bool, List, eqb, length, get_or, take, drop}
use Rattle.laws.specs.Least.{somewhere}
use Rattle.laws.specs.Pick.{both}
use Rattle.list_address.specs.Decimal.{is_port}
use Rattle.list_address.specs.Host.{is_host}

-- a colon stands at k, a port behind it and a host before it
unfoldable pub divides_at : List ℕ → ℕ → Bool
divides_at x k = both (eqb (get_or x k 0) (code ":")) (both (is_port (drop (k + 1) x)) (is_host (take k x)))

-- That colon is the last one, since no port has a colon.
unfoldable pub is_address : List ℕ → Bool
is_address x = somewhere (divides_at x) (length x)
