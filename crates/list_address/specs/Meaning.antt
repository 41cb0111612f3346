-- Draft 19, section 8.3, as a sentence: "a string indicating a host and a port number, separated by a colon character".
-- A host may have colons, too, and a port has none.
use Rattle.std.specs.Prelude.{ℕ, ◌+◌, ◌<◌, ◌≡◌, true, List, length, get_or, take, drop}
use Rattle.list_address.specs.Decimal.{is_port}
use Rattle.list_address.specs.Host.{is_host}

-- the last colon of x stands at k, a host before it, and a port behind it
pub record Divided (x : List ℕ) (k : ℕ) : Type 0 where
  pub inside : k < length x
  pub colon : get_or x k 0 ≡ 58
  pub last : (j : ℕ) → k < j → get_or x j 0 ≡ 58 → ⊥
  pub host : is_host (take k x) ≡ true
  pub port : is_port (drop (k + 1) x) ≡ true
