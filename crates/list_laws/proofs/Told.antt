-- That a pair in the type of a key is one character changes nothing of what `read_servers` answers and writes.
use Prim.Native.Nat.{ℕ, suc}
use mathlib.Core.Path.{◌≡◌, refl, ap}
use mathlib.Core.Bool.{Bool, true, false}
use mathlib.Core.List.{List, [], ◌∷◌, ◌++◌}
use lib.ListN.{length}
use Rattle.laws.specs.Ascii.{ascii}
use Rattle.laws.specs.Pick.{pick, either, both}
use Rattle.list_read.specs.Server.{Server, askable}
use Rattle.list_read.specs.Listed.{Lists, this, unread}
use Rattle.list_read.specs.Read.{askables, passed_over, record_of, records_of, is_crowded, any_crowded, size_code, servers_of}
use Rattle.list_read.specs.Read.{list_code, answer_of, read_of, record_bytes}
use Rattle.json_laws.proofs.Paired.{narrow, same-paired}
use Rattle.list_laws.specs.Listing.{spelt, spelt_all, spelt_list, told}

type-narrow : narrow (ascii "ed25519") ≡ true
unfolding both
type-narrow = refl

pub askable-spelt : (v : Server) → askable (spelt v) ≡ askable v
unfolding askable spelt
askable-spelt v = rw (same-paired v.scheme (ascii "ed25519") type-narrow) refl

askables-spelt : (vs : List Server) → askables (spelt_all vs) ≡ spelt_all (askables vs)
unfolding askables spelt_all pick
askables-spelt [] = refl
askables-spelt (v ∷ vs) = rw (askable-spelt v, askables-spelt vs) (by (askable v))
  where
    by : (b : Bool) → pick b (spelt v ∷ spelt_all (askables vs)) (spelt_all (askables vs))
        ≡ spelt_all (pick b (v ∷ askables vs) (askables vs))
    by true = refl
    by false = refl

passed-spelt : (vs : List Server) → passed_over (spelt_all vs) ≡ passed_over vs
unfolding passed_over spelt_all
passed-spelt [] = refl
passed-spelt (v ∷ vs) = rw (askable-spelt v, passed-spelt vs) refl

records-spelt : (vs : List Server) → records_of (spelt_all vs) ≡ records_of vs
unfolding records_of record_of spelt_all spelt
records-spelt [] = refl
records-spelt (v ∷ vs) = ap (λ l. record_of v ++ l) (records-spelt vs)

crowded-spelt : (vs : List Server) → any_crowded (spelt_all vs) ≡ any_crowded vs
unfolding any_crowded is_crowded spelt_all spelt
crowded-spelt [] = refl
crowded-spelt (v ∷ vs) = ap (either (is_crowded v)) (crowded-spelt vs)

length-spelt : (vs : List Server) → length (spelt_all vs) ≡ length vs
unfolding spelt_all
length-spelt [] = refl
length-spelt (v ∷ vs) = ap suc (length-spelt vs)

servers-told : (l : Lists) → servers_of (told l) ≡ spelt_all (servers_of l)
unfolding servers_of told spelt_list spelt_all
servers-told (this l) = refl
servers-told unread = refl

code-told : (l : Lists) → list_code (told l) ≡ list_code l
unfolding list_code size_code told spelt_list
code-told (this l) = rw (length-spelt l.servers, crowded-spelt l.servers) refl
code-told unread = refl

answer-spelt : (vs : List Server) (room : ℕ) → answer_of (spelt_all vs) room ≡ answer_of vs room
unfolding answer_of
answer-spelt vs room = rw (askables-spelt vs, length-spelt (askables vs), passed-spelt vs) refl

pub read_told : (l : Lists) (room : ℕ) → read_of (told l) room ≡ read_of l room
unfolding read_of
read_told l room = rw (code-told l, servers-told l, answer-spelt (servers_of l) room) refl

pub bytes-told : (l : Lists) → record_bytes (told l) ≡ record_bytes l
unfolding record_bytes
bytes-told l = rw (servers-told l, askables-spelt (servers_of l)) (records-spelt (askables (servers_of l)))
