-- The code and the part that a lookup answers with, as document 01's sentences: when each code is given, and that the
-- part is the first record with the SRV value, the owner's list before the shipped one.
use Rattle.refusal.specs.declared.Refusal.{Refusal}
use Rattle.std.specs.Prelude.{Err, Ok, Result}
use borrow.Author.Tests.{ltb-true, ltb-false}
use mathlib.Core.Bool.{Bool, true, false}
use mathlib.Core.Path.{◌≡◌, refl, sym, ap, ◌∙◌, subst}
use mathlib.Core.List.{List, []}
use mathlib.Core.Logic.{◌↔◌}
use Prim.Native.Nat.{ℕ, ◌+◌, ◌-◌, ◌≤◌, ◌<◌}
use native.Mathlib.Nat.{le_refl}
use native.Mathlib.Omega.{arith}
use lib.Dec.{T, ltb}
use lib.ListN.{length, get_or, length-append, get_or-append}
use lib.Seq.{get_or-append-add}
use Rattle.laws.specs.Least.{Never}
use Rattle.laws.proofs.Holds.{holds-exactly}
use Rattle.laws.proofs.Same.{same_refl, same_true}
use Rattle.laws.proofs.Upto.{upto-length, upto-at}
use Rattle.server_list.specs.Lists.{server_count, server_at, servers_in, srv_in, serves, serves_at}
use Rattle.server_list.specs.Lookup.{searched, handed, where_number, sought}
use Rattle.server_list.specs.Meaning.{WholeLists, IsFirstIn, NotIn, code-21, code-22, FindsServer, HasSrv, FirstWithSrv}
use Rattle.server_list.specs.declared.Where.{Where}
use Rattle.server_list.specs.declared.Where.TheVariants.{Owner, Shipped}
use Rattle.server_list.proofs.Matching.{server-long, part_of, part-sought}
use Rattle.server_list.proofs.Seeking.{sought-finds}

-- ---- the records in the order of the search

serves-exactly : (srv r : List ℕ) → T (serves srv r) ↔ srv_in r ≡ srv
unfolding serves
serves-exactly srv r =
    (λ t. same_true (srv_in r) srv ((holds-exactly _).1 t), λ e. rw e ((holds-exactly _).0 (same_refl srv)))

count-servers : (list : List ℕ) → length (servers_in list) ≡ server_count list
unfolding servers_in
count-servers list = upto-length (server_at list) (server_count list)

server-in : (list : List ℕ) (k : ℕ) → k < server_count list → get_or (servers_in list) k [] ≡ server_at list k
unfolding servers_in
server-in list k h = upto-at (server_at list) (server_count list) k [] h

-- record i of some records, which is r
served : (srv : List ℕ) (records : List (List ℕ)) (i : ℕ) (r : List ℕ) → i < length records → get_or records i [] ≡ r
    → T (serves srv r) ↔ HasSrv srv records i
served srv records i r h e = (
  λ t. record { there = h; value = ap srv_in e ∙ (serves-exactly srv r).0 t },
  λ s. (serves-exactly srv r).1 (ap srv_in (sym e) ∙ s.value),
)

module _ (owner shipped srv : List ℕ) where
  count-searched : length (searched owner shipped) ≡ server_count owner + server_count shipped
  count-searched = rw (length-append, count-servers, count-servers)

  -- the owner's records come first,
  at-owner : (i : ℕ) → i < server_count owner → get_or (searched owner shipped) i [] ≡ server_at owner i
  at-owner i h =
      get_or-append (servers_in owner) (servers_in shipped) [] i (rw (count-servers owner) h) ∙ server-in owner i h

  -- and then the shipped ones
  at-shipped : (j : ℕ) → j < server_count shipped
      → get_or (searched owner shipped) (server_count owner + j) [] ≡ server_at shipped j
  at-shipped j h =
      rw (← count-servers owner) (get_or-append-add (servers_in owner) (servers_in shipped) j []) ∙ server-in shipped j h

  served-owner : (i : ℕ) → i < server_count owner → T (serves_at srv owner i) ↔ HasSrv srv (searched owner shipped) i
  served-owner i h =
      served srv (searched owner shipped) i (server_at owner i) (omega (arith, count-searched)) (at-owner i h)

  served-shipped : (j : ℕ) → j < server_count shipped
      → T (serves_at srv shipped j) ↔ HasSrv srv (searched owner shipped) (server_count owner + j)
  served-shipped j h =
      served srv (searched owner shipped) (server_count owner + j) (server_at shipped j) (omega (arith, count-searched))
      (at-shipped j h)

  -- none of the owner's records has the SRV value, and none of the first m shipped ones: none of both has
  none_before : (m : ℕ) → m ≤ server_count shipped → NotIn owner srv → Never (serves_at srv shipped) m
      → (i : ℕ) → i < server_count owner + m → HasSrv srv (searched owner shipped) i → ⊥
  none_before m l a b i h s = by (ltb i (server_count owner)) refl
    where
      by : (t : Bool) → ltb i (server_count owner) ≡ t → ⊥
      by true e = let g = ltb-true i (server_count owner) e in a i g ((served-owner i g).1 s)
      by false e =
          let g = ltb-false i (server_count owner) e in
          let j = i - server_count owner in
          let t : HasSrv srv (searched owner shipped) (server_count owner + j) =
          subst (HasSrv srv (searched owner shipped)) (omega arith) s in
          b j (omega arith) ((served-shipped j (omega arith)).1 t)

  none_at_all : NotIn owner srv → NotIn shipped srv → (i : ℕ) → HasSrv srv (searched owner shipped) i → ⊥
  none_at_all a b i s =
      none_before (server_count shipped) (le_refl (server_count shipped)) a b i (rw (← count-searched) s.there) s

  -- the record that an answer names is the first of both lists that has the value
  first-owner : (k : ℕ) → IsFirstIn owner srv k → FirstWithSrv srv (searched owner shipped) (server_at owner k)
  first-owner k f = record {
    place = k;
    here = (served-owner k f.inside).0 f.holds;
    earlier = λ i h s. f.earlier i h ((served-owner i (omega (arith, f.inside))).1 s);
    is = sym (at-owner k f.inside);
  }

  first-shipped : (k : ℕ) → NotIn owner srv → IsFirstIn shipped srv k
      → FirstWithSrv srv (searched owner shipped) (server_at shipped k)
  first-shipped k n f = record {
    place = server_count owner + k;
    here = (served-shipped k f.inside).0 f.holds;
    earlier = none_before k (omega (arith, f.inside)) n f.earlier;
    is = sym (at-shipped k f.inside);
  }

  -- ---- what is answered, by each answer that is right

  -- 21 is given exactly where either list is not whole records,
  pub ragged-exactly : where_number (sought owner shipped srv) ≡ 21 ↔ (WholeLists owner shipped → ⊥)
  ragged-exactly = by (sought owner shipped srv) (sought-finds owner shipped srv)
    where
      by : (w : Result Where Refusal) → FindsServer owner shipped srv w → where_number w ≡ 21 ↔ (WholeLists owner shipped → ⊥)
      by (Ok (Owner k)) f = (λ e. absurd (omega (arith, e)), λ r. absurd (r f.0))
      by (Ok (Shipped k)) f = (λ e. absurd (omega (arith, e)), λ r. absurd (r f.0))
      by (Err why) (code-21 f) = (λ e. f, λ r. refl)
      by (Err why) (code-22 w n m) = (λ e. absurd (omega (arith, e)), λ r. absurd (r w))

  -- 22 exactly where both are, and no record of either has the SRV value,
  pub unknown-exactly : where_number (sought owner shipped srv) ≡ 22
      ↔ WholeLists owner shipped × ((i : ℕ) → HasSrv srv (searched owner shipped) i → ⊥)
  unknown-exactly = by (sought owner shipped srv) (sought-finds owner shipped srv)
    where
      by : (w : Result Where Refusal) → FindsServer owner shipped srv w
          → where_number w ≡ 22 ↔ WholeLists owner shipped × ((i : ℕ) → HasSrv srv (searched owner shipped) i → ⊥)
      by (Ok (Owner k)) f = (λ e. absurd (omega (arith, e)), λ r. absurd (r.1 _ (first-owner k f.1).here))
      by (Ok (Shipped k)) f =
          (λ e. absurd (omega (arith, e)), λ r. absurd (r.1 _ (first-shipped k f.1 f.2).here))
      by (Err why) (code-21 f) = (λ e. absurd (omega (arith, e)), λ r. absurd (f r.0))
      by (Err why) (code-22 w n m) = (λ e. (w, none_at_all n m), λ r. refl)

  -- and 0 exactly where both are, and some record has it.
  pub found-exactly : where_number (sought owner shipped srv) ≡ 0
      ↔ WholeLists owner shipped × ((i : ℕ) × HasSrv srv (searched owner shipped) i)
  found-exactly = by (sought owner shipped srv) (sought-finds owner shipped srv)
    where
      by : (w : Result Where Refusal) → FindsServer owner shipped srv w
          → where_number w ≡ 0 ↔ WholeLists owner shipped × ((i : ℕ) × HasSrv srv (searched owner shipped) i)
      by (Ok (Owner k)) f = (λ e. (f.0, (_, (first-owner k f.1).here)), λ r. refl)
      by (Ok (Shipped k)) f = (λ e. (f.0, (_, (first-shipped k f.1 f.2).here)), λ r. refl)
      by (Err why) (code-21 f) = (λ e. absurd (omega (arith, e)), λ r. absurd (f r.0))
      by (Err why) (code-22 w n m) = (λ e. absurd (omega (arith, e)), λ r. absurd (none_at_all n m r.1.0 r.1.1))

  -- Then the part is the first record that has it, the owner's list before the shipped one,
  pub found_first : where_number (sought owner shipped srv) ≡ 0
      → FirstWithSrv srv (searched owner shipped) (handed owner shipped srv)
  found_first e =
      rw (← part-sought owner shipped srv) (by (sought owner shipped srv) (sought-finds owner shipped srv) e)
    where
      by : (w : Result Where Refusal) → FindsServer owner shipped srv w → where_number w ≡ 0
          → FirstWithSrv srv (searched owner shipped) (part_of owner shipped w)
      by (Ok (Owner k)) f e = first-owner k f.1
      by (Ok (Shipped k)) f e = first-shipped k f.1 f.2
      by (Err why) (code-21 f) e = absurd (omega (arith, e))
      by (Err why) (code-22 w n m) e = absurd (omega (arith, e))

  -- and has 64 bytes;
  pub found-long : where_number (sought owner shipped srv) ≡ 0 → length (handed owner shipped srv) ≡ 64
  found-long e =
      rw (← part-sought owner shipped srv) (by (sought owner shipped srv) (sought-finds owner shipped srv) e)
    where
      by : (w : Result Where Refusal) → FindsServer owner shipped srv w → where_number w ≡ 0 → length (part_of owner shipped w) ≡ 64
      by (Ok (Owner k)) f e = server-long owner k f.1.inside
      by (Ok (Shipped k)) f e = server-long shipped k f.2.inside
      by (Err why) (code-21 f) e = absurd (omega (arith, e))
      by (Err why) (code-22 w n m) e = absurd (omega (arith, e))

  -- on a refusal it is empty.
  pub refused-empty : (where_number (sought owner shipped srv) ≡ 0 → ⊥) → handed owner shipped srv ≡ []
  refused-empty r = rw (← part-sought owner shipped srv) (by (sought owner shipped srv) r)
    where
      by : (w : Result Where Refusal) → (where_number w ≡ 0 → ⊥) → part_of owner shipped w ≡ []
      by (Ok (Owner k)) r = absurd (r refl)
      by (Ok (Shipped k)) r = absurd (r refl)
      by (Err why) r = refl
