-- Server lists (document 01, "Server lists"): records of 64 bytes, no header: long-term key, SRV value.
use Rattle.std.specs.Prelude.{Bool, List, ℕ, ◌*◌, ◌/◌, ◌%◌, eqb, length, take, drop}
use Rattle.laws.specs.Same.{same}
use Rattle.laws.specs.Upto.{upto}

-- a list is whole records; an empty one is
abbrev pub whole : List ℕ → Bool
whole list = eqb (length list % 64) 0

-- how many records it has
abbrev pub server_count : List ℕ → ℕ
server_count list = length list / 64

-- record k of a list, and all of them in order
unfoldable pub server_at : List ℕ → ℕ → List ℕ
server_at list k = take 64 (drop (k * 64) list)

unfoldable pub servers_in : List ℕ → List (List ℕ)
servers_in list = upto (server_at list) (server_count list)

-- the SRV value of a record, which stands after the key
abbrev pub srv_in : List ℕ → List ℕ
srv_in r = take 32 (drop 32 r)

-- a record has this SRV value
unfoldable pub serves : List ℕ → List ℕ → Bool
serves srv r = same (srv_in r) srv

-- record k of a list has it
abbrev pub serves_at : List ℕ → List ℕ → ℕ → Bool
serves_at srv list k = serves srv (server_at list k)
