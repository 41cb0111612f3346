-- What `read_servers` writes of a list: the records of the servers that can be asked. In each the SRV value is that of
-- the key, and a lookup by the SRV value of a key finds the first server of that key.
use Rattle.std.specs.Prelude.{Err, Ok}
use Prim.Native.Nat.{ℕ, ◌≤◌, ◌<◌}
use mathlib.Core.Path.{◌≡◌, refl, ap}
use mathlib.Core.Bool.{Bool, true, false}
use mathlib.Core.List.{List, [], ◌∷◌, ◌++◌}
use borrow.Author.Tests.{eqb-true}
use lib.ListN.{length}
use Rattle.laws.specs.Pick.{pick, both}
use Rattle.refusal.specs.Refusal.{refusal}
use Rattle.hash.specs.Hashes.{srv_of}
use Rattle.server_list.specs.Lists.{whole}
use Rattle.server_list.specs.Lookup.{sought}
use Rattle.server_list.specs.declared.Where.TheVariants.{Owner}
use Rattle.list_read.specs.Server.{Server, askable}
use Rattle.list_read.specs.Listed.{Lists}
use Rattle.list_read.specs.Read.{askables, servers_of, record_of, records_of, record_bytes}
use Rattle.list_laws.specs.Keys.{record_by, records_by, Keys, Truthful, first_of, Apart}
use Rattle.list_laws.specs.Found.{keys_of, asked_keys}
use Rattle.list_laws.proofs.Keys.{records-truthful, finds-key, misses-key}

-- the records of servers are those of their keys
records-by : (vs : List Server) → records_of vs ≡ records_by (keys_of vs)
unfolding records_of record_of records_by record_by keys_of
records-by [] = refl
records-by (v ∷ vs) = ap (λ l. (v.key ++ srv_of v.key) ++ l) (records-by vs)

pub bytes-by : (l : Lists) → record_bytes l ≡ records_by (asked_keys l)
unfolding record_bytes
bytes-by l = records-by (askables (servers_of l))

-- the key of a server that can be asked has 32 bytes
both-second : (p q : Bool) → both p q ≡ true → q ≡ true
unfolding both
both-second true q e = e
both-second false true e = refl
both-second false false e = e

key-long : (v : Server) → askable v ≡ true → length v.key ≡ 32
unfolding askable
key-long v e = eqb-true _ 32 (both-second _ _ (both-second _ _ e))

asked-long : (vs : List Server) → Keys (keys_of (askables vs))
unfolding keys_of askables pick
asked-long [] = tt
asked-long (v ∷ vs) = by (askable v) refl (asked-long vs)
  where
    by : (t : Bool) → askable v ≡ t → Keys (keys_of (askables vs)) → Keys (keys_of (pick t (v ∷ askables vs) (askables vs)))
    by true e k = (key-long v e, k)
    by false e k = k

module _ (l : Lists) where
  long : Keys (asked_keys l)
  long = asked-long (servers_of l)

  -- each record's SRV value is that of its key
  pub list-truthful : Truthful (record_bytes l)
  list-truthful = rw (bytes-by l) (records-truthful (asked_keys l) long)

  module _ (key : List ℕ) (apart : Apart key (asked_keys l)) where
    -- where a server of the list has this key, `find_server` finds the first that has, whatever the shipped list is;
    pub list-finds : (shipped : List ℕ) → whole shipped ≡ true → first_of key (asked_keys l) < length (asked_keys l)
        → sought (record_bytes l) shipped (srv_of key) ≡ Ok (Owner (first_of key (asked_keys l)))
    list-finds shipped w h = rw (bytes-by l) (finds-key (asked_keys l) long key apart shipped w h)

    -- where none has, 22 is told
    pub list-misses : length (asked_keys l) ≤ first_of key (asked_keys l)
        → sought (record_bytes l) [] (srv_of key) ≡ Err (refusal 22)
    list-misses h = rw (bytes-by l) (misses-key (asked_keys l) long key apart h)
