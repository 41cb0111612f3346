-- The servers of a list that can be asked, by their keys.
use Rattle.std.specs.Prelude.{List, [], ◌∷◌, ℕ}
use Rattle.list_read.specs.Server.{Server}
use Rattle.list_read.specs.Listed.{Lists}
use Rattle.list_read.specs.Read.{askables, servers_of}

unfoldable pub keys_of : List Server → List (List ℕ)
keys_of [] = []
keys_of (v ∷ vs) = v.key ∷ keys_of vs

-- the keys of those servers, in the list's order
abbrev pub asked_keys : Lists → List (List ℕ)
asked_keys l = keys_of (askables (servers_of l))
