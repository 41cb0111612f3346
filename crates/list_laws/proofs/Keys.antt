-- The records of keys are truthful, and a lookup by the SRV value of a key finds the first record of that key.
use Rattle.std.specs.Prelude.{Err, Ok}
use Prim.Native.Nat.{ℕ, zero, suc, ◌+◌, ◌*◌, ◌%◌, ◌≤◌, ◌<◌}
use mathlib.Core.Path.{◌≡◌, refl, sym, ◌∙◌, ap}
use mathlib.Core.Bool.{Bool, true, false}
use mathlib.Core.List.{List, [], ◌∷◌, ◌++◌}
use native.Mathlib.Nat.{le_of_suc-le-suc, not-suc-le-zero}
use native.Mathlib.Omega.{arith}
use borrow.Author.Tests.{eq-eqb, lt-ltb, le-ltb}
use lib.ListN.{length, get_or, take, drop, length-append}
use lib.Seq.{take_at, drop_at, drop-append-add, take_all}
use Rattle.laws.specs.Least.{least}
use Rattle.laws.specs.Same.{same}
use Rattle.laws.proofs.Least.{least-same}
use Rattle.laws.proofs.Same.{same_refl, same_true}
use Rattle.refusal.specs.Refusal.{refusal}
use Rattle.hash.specs.Hashes.{srv_of}
use Rattle.hash.proofs.Lengths.{length-srv}
use Rattle.server_list.specs.Lists.{server_count, server_at, srv_in, serves, serves_at, whole}
use Rattle.server_list.specs.Lookup.{first_in, known, sought}
use Rattle.server_list.specs.declared.Where.TheVariants.{Owner}
use Rattle.list_laws.specs.Keys.{record_by, records_by, Keys, Truthful, first_of, Apart}

-- ---- One record

module _ (key : List ℕ) (long : length key ≡ 32) where
  record-long : length (record_by key) ≡ 64
  unfolding record_by
  record-long = omega (arith, length-append key (srv_of key), length-srv key, long)

  record-key : take 32 (record_by key) ≡ key
  unfolding record_by
  record-key = take_at key (srv_of key) 32 long

  record-srv : srv_in (record_by key) ≡ srv_of key
  unfolding record_by
  record-srv =
      ap (take 32) (drop_at key (srv_of key) 32 long)
      ∙ take_all 32 (srv_of key) (omega (arith, length-srv key))

-- ---- All of them

keys-at : (keys : List (List ℕ)) → Keys keys → (i : ℕ) → i < length keys → length (get_or keys i []) ≡ 32
keys-at [] l i h = absurd (not-suc-le-zero h)
keys-at (k ∷ ks) l zero h = l.0
keys-at (k ∷ ks) l (suc i) h = keys-at ks l.1 i (le_of_suc-le-suc h)

pub records-long : (keys : List (List ℕ)) → Keys keys → length (records_by keys) ≡ length keys * 64
unfolding records_by
records-long [] l = refl
records-long (k ∷ ks) l =
    omega (arith, length-append (record_by k) (records_by ks), record-long k l.0, records-long ks l.1)

module _ (keys : List (List ℕ)) (l : Keys keys) where
  records-whole : length (records_by keys) % 64 ≡ 0
  records-whole = omega (arith, records-long keys l)

  pub records-count : server_count (records_by keys) ≡ length keys
  records-count = omega (arith, records-long keys l)

-- record i is that of key i
pub record-at : (keys : List (List ℕ)) → Keys keys → (i : ℕ) → i < length keys
    → server_at (records_by keys) i ≡ record_by (get_or keys i [])
unfolding server_at records_by
record-at [] l i h = absurd (not-suc-le-zero h)
record-at (k ∷ ks) l zero h = take_at (record_by k) (records_by ks) 64 (record-long k l.0)
record-at (k ∷ ks) l (suc i) h =
    ap (λ n. take 64 (drop n (record_by k ++ records_by ks))) step
    ∙ ap (take 64) (drop-append-add (record_by k) (records_by ks) (i * 64)) ∙ record-at ks l.1 i (le_of_suc-le-suc h)
  where
    step : suc i * 64 ≡ length (record_by k) + i * 64
    step = omega (arith, record-long k l.0)

-- an empty list has no server
nothing_known : (srv : List ℕ) → known [] srv ≡ false
unfolding first_in least
nothing_known srv = refl

module _ (keys : List (List ℕ)) (l : Keys keys) where
  -- each record's SRV value is that of its key
  pub records-truthful : Truthful (records_by keys)
  records-truthful = record { whole = records-whole keys l; srv = told }
    where
      told : (i : ℕ) → i < server_count (records_by keys)
          → srv_in (server_at (records_by keys) i) ≡ srv_of (take 32 (server_at (records_by keys) i))
      told i h =
          let g : i < length keys = omega (arith, records-count keys l, h) in
          let e = keys-at keys l i g in
          rw (record-at keys l i g) (record-srv (get_or keys i []) e ∙ sym (ap srv_of (record-key (get_or keys i []) e)))

  module _ (key : List ℕ) (apart : Apart key keys) where
    -- a record has the SRV value of a key where its key is this one
    serves-key : (i : ℕ) → i < length keys → serves_at (srv_of key) (records_by keys) i ≡ same (get_or keys i []) key
    unfolding serves
    serves-key i h =
        ap (λ r. same (srv_in r) (srv_of key)) (record-at keys l i h)
        ∙ ap (λ x. same x (srv_of key)) (record-srv (get_or keys i []) (keys-at keys l i h))
        ∙ by (same (get_or keys i []) key) (same (srv_of (get_or keys i [])) (srv_of key)) refl refl
      where
        by : (t u : Bool) → same (get_or keys i []) key ≡ t → same (srv_of (get_or keys i [])) (srv_of key) ≡ u → u ≡ t
        by true u e f = sym f ∙ ap (λ x. same (srv_of x) (srv_of key)) (same_true _ _ e) ∙ same_refl (srv_of key)
        by false true e f =
            sym (ap (λ x. same x key) (apart i h (same_true _ _ f)) ∙ same_refl key) ∙ e
        by false false e f = refl

    -- the first record with its SRV value is the first record of the key
    pub first-of-key : first_in (records_by keys) (srv_of key) ≡ first_of key keys
    unfolding first_in first_of
    first-of-key =
        ap (least (serves_at (srv_of key) (records_by keys))) (records-count keys l)
        ∙ least-same _ _ (length keys) serves-key

    -- so a lookup finds that one, whatever the shipped list is,
    pub finds-key : (shipped : List ℕ) → whole shipped ≡ true → first_of key keys < length keys
        → sought (records_by keys) shipped (srv_of key) ≡ Ok (Owner (first_of key keys))
    unfolding sought
    finds-key shipped w h =
        simp (eq-eqb _ 0 (records-whole keys l), w, first-of-key, records-count keys l, lt-ltb _ _ h)

    -- and with no other list 22 is told where no server has the key
    pub misses-key : length keys ≤ first_of key keys → sought (records_by keys) [] (srv_of key) ≡ Err (refusal 22)
    unfolding sought
    misses-key h =
        simp
        (eq-eqb _ 0 (records-whole keys l), first-of-key, records-count keys l, le-ltb _ _ h, nothing_known (srv_of key))
