-- The records of servers by the servers' keys, of which each has 32 bytes (document 01, "Server lists").
use Rattle.std.specs.Prelude.{◌≡◌, List, [], ◌∷◌, ◌++◌, ℕ, ◌%◌, ◌<◌, length, get_or, take}
use Rattle.laws.specs.Least.{least}
use Rattle.laws.specs.Same.{same}
use Rattle.hash.specs.Hashes.{srv_of}
use Rattle.server_list.specs.Lists.{server_count, server_at, srv_in}

-- a record is the key and then its SRV value
unfoldable pub record_by : List ℕ → List ℕ
record_by key = key ++ srv_of key

-- one after the other
unfoldable pub records_by : List (List ℕ) → List ℕ
records_by [] = []
records_by (k ∷ ks) = record_by k ++ records_by ks

-- each key has 32 bytes
abbrev pub Keys : List (List ℕ) → Type 0
Keys [] = Unit {0}
Keys (k ∷ ks) = (length k ≡ 32) × Keys ks

-- whole records, in each of which the SRV value is that of the key
pub record Truthful (records : List ℕ) : Type 0 where
  pub whole : length records % 64 ≡ 0
  pub srv : (i : ℕ) → i < server_count records → srv_in (server_at records i) ≡ srv_of (take 32 (server_at records i))

-- the place of the first of these keys that is this one, and their number where none is
unfoldable pub first_of : List ℕ → List (List ℕ) → ℕ
first_of key keys = least (λ i. same (get_or keys i []) key) (length keys)

-- none of these keys is another with the same SRV value: such two keys would be a collision of SHA-512, cut to 32 bytes
abbrev pub Apart : List ℕ → List (List ℕ) → Type 0
Apart key keys = (i : ℕ) → i < length keys → srv_of (get_or keys i []) ≡ srv_of key → get_or keys i [] ≡ key
