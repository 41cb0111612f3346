-- Laws about lists that are read: what stands at the places that a survey knows.
use Rattle.std.specs.Prelude.{None, Option, Some, Ok}
use Prim.Native.Nat.{ℕ, zero, suc, ◌≤◌, ◌<◌}
use mathlib.Core.Path.{◌≡◌, refl, sym, ◌∙◌, ap}
use mathlib.Core.Bool.{Bool, true, false, true≢false}
use mathlib.Core.List.{List, [], ◌∷◌}
use native.Mathlib.Omega.{arith}
use borrow.Author.Tests.{eqb-true, ltb-false}
use lib.Dec.{eqb, ltb}
use lib.ListN.{length, get_or, take, length-take}
use Rattle.laws.specs.Pick.{pick, both}
use Rattle.json_tokens.proofs.Picks.{inside}
use Rattle.json_text.specs.Octets.{Text, octets, none, plain}
use Rattle.json_values.specs.declared.Found.{Found}
use Rattle.json_values.specs.declared.Found.TheVariants.{Nothing, Twice}
use Rattle.json_values.specs.declared.Found.TheVariants.{At as FoundAt}
use Rattle.report_read.specs.Entry.{list_of as array_of}
use Rattle.list_read.specs.declared.Survey.{Survey}
use Rattle.list_read.specs.Server.{Server, Address, is_some, text_by, is_place, address_good, address_at, all_addresses}
use Rattle.list_read.specs.Server.{addresses_at, of_address, address_name, askable, server_good, server_at, places_in}
use Rattle.list_read.specs.Server.{in_servers, in_addresses, addresses_good, address_places, of_server, name_name}
use Rattle.list_read.specs.Server.{addresses_name, passes}
use Rattle.list_read.specs.Listed.{Lists, this, unread, is_url, url_at, all_urls, urls_at, all_servers, servers_at}
use Rattle.list_read.specs.Listed.{server_places, is_list, listed, list_of, sources_good, source_places, sources_member}
use Rattle.list_read.specs.Read.{askables, any_crowded, size_code, list_code}
use Rattle.list_read.specs.Facts.{ask_places, Surveys}
use Rattle.list_parts.specs.Parts.{nth, name_of, place_of, is_tcp, address_of, tcp_of, name_in, address_in, tcp_in}
use Rattle.list_parts.specs.Parts.{source_in}
use Rattle.list_parts.specs.Parts.{reports_in}
use Rattle.list_parts.specs.Facts.{item_in}
use Rattle.list_parts.proofs.Items.{nth-at, nth-done}

pub both_one : (p q : Bool) → both p q ≡ true → p ≡ true
unfolding both
both_one true q e = refl
both_one false q e = absurd (true≢false (sym e))

pub both-two : (p q : Bool) → both p q ≡ true → q ≡ true
unfolding both
both-two true q e = e
both-two false q e = absurd (true≢false (sym e))

-- ---- Elements, by the places of the objects.
module _ {B : Type 0} (d : B) (s : List ℕ) where
  nth-servers : (f : Server → B) (ks : List ℕ) (i : ℕ)
      → nth d f (askables (servers_at s ks)) i ≡ nth d (λ k. f (server_at s k)) (ask_places s ks) i
  unfolding nth askables servers_at ask_places pick
  nth-servers f [] i = refl
  nth-servers f (k ∷ ks) i = by (askable (server_at s k)) i (λ m. nth-servers f ks m)
    where
      by : (b : Bool) (i : ℕ)
          → ((m : ℕ) → nth d f (askables (servers_at s ks)) m ≡ nth d (λ j. f (server_at s j)) (ask_places s ks) m)
          → nth d f (pick b (server_at s k ∷ askables (servers_at s ks)) (askables (servers_at s ks))) i
          ≡ nth d (λ m. f (server_at s m)) (pick b (k ∷ ask_places s ks) (ask_places s ks)) i
      by true zero h = refl
      by true (suc m) h = h m
      by false m h = h m

  nth-addresses : (f : Address → B) (ks : List ℕ) (j : ℕ)
      → nth d f (addresses_at s ks) j ≡ nth d (λ k. f (address_at s k)) ks j
  unfolding nth addresses_at
  nth-addresses f [] j = refl
  nth-addresses f (k ∷ ks) zero = refl
  nth-addresses f (k ∷ ks) (suc j) = nth-addresses f ks j

  nth-urls : (f : List ℕ → B) (ks : List ℕ) (j : ℕ)
      → nth d f (urls_at s ks) j ≡ nth d (λ k. f (plain (url_at s k))) ks j
  unfolding nth urls_at
  nth-urls f [] j = refl
  nth-urls f (k ∷ ks) zero = refl
  nth-urls f (k ∷ ks) (suc j) = nth-urls f ks j

-- ---- All are good, so each is.
never : {A : Type 0} {k : ℕ} → Some k ≡ None → A
never e = let z : ◌≡◌ {A = ℕ} 0 1 = cc in absurd (omega arith)

module _ (s : List ℕ) where
  servers-good : (ks : List ℕ) (i : ℕ) {k : ℕ} → all_servers s ks ≡ true → Some k ≡ item_in (ask_places s ks) i
      → server_good s k ≡ true
  unfolding nth item_in all_servers ask_places pick
  servers-good [] i g e = never e
  servers-good (x ∷ ks) i {k} g e = by (askable (server_at s x)) i e
      (λ m f. servers-good ks m (both-two (server_good s x) (all_servers s ks) g) f)
    where
      by : (b : Bool) (m : ℕ) → Some k ≡ nth None Some (pick b (x ∷ ask_places s ks) (ask_places s ks)) m
          → ((n : ℕ) → Some k ≡ item_in (ask_places s ks) n → server_good s k ≡ true) → server_good s k ≡ true
      by true zero f h = let q : k ≡ x = cc in rw q (both_one (server_good s x) (all_servers s ks) g)
      by true (suc m) f h = h m f
      by false m f h = h m f

  addresses-good : (ks : List ℕ) (j : ℕ) {k : ℕ} → all_addresses s ks ≡ true → Some k ≡ item_in ks j
      → address_good s k ≡ true
  unfolding nth item_in all_addresses
  addresses-good [] j g e = never e
  addresses-good (x ∷ ks) zero {k} g e =
      let q : k ≡ x = cc in rw q (both_one (address_good s x) (all_addresses s ks) g)
  addresses-good (x ∷ ks) (suc j) g e = addresses-good ks j (both-two (address_good s x) (all_addresses s ks) g) e

  urls-good : (ks : List ℕ) (j : ℕ) {k : ℕ} → all_urls s ks ≡ true → Some k ≡ item_in ks j → is_url (url_at s k) ≡ true
  unfolding nth item_in all_urls
  urls-good [] j g e = never e
  urls-good (x ∷ ks) zero {k} g e =
      let q : k ≡ x = cc in rw q (both_one (is_url (url_at s x)) (all_urls s ks) g)
  urls-good (x ∷ ks) (suc j) g e = urls-good ks j (both-two (is_url (url_at s x)) (all_urls s ks) g) e

-- a good text is one
some-text : (t : Text) → is_some t ≡ true → octets (plain t) ≡ t
unfolding is_some
some-text (octets x) e = refl
some-text none e = absurd (true≢false (sym e))

place-text : (t : Text) → is_place t ≡ true → octets (plain t) ≡ t
unfolding is_place passes
place-text (octets x) e = refl
place-text none e = absurd (true≢false (sym e))

url-text : (t : Text) → is_url t ≡ true → octets (plain t) ≡ t
unfolding is_url passes
url-text (octets x) e = refl
url-text none e = absurd (true≢false (sym e))

-- ---- A list with no refusal.
code-none : (l : Lists) → list_code l ≡ 0 → l ≡ unread → ⊥
unfolding list_code
code-none l e h = let z : ◌≡◌ {A = ℕ} 24 0 = rw h at e in omega arith

size-most : (vs : List Server) → size_code vs ≡ 0 → length vs ≤ 64
unfolding size_code pick
size-most vs e = by (eqb (length vs) 0) (ltb 64 (length vs)) refl e
  where
    by : (p q : Bool) → ltb 64 (length vs) ≡ q → ◌≡◌ {A = ℕ} (pick p 25 (pick q 25 (pick (any_crowded vs) 25 0))) 0
        → length vs ≤ 64
    by true q f g = absurd (omega arith)
    by false true f g = absurd (omega arith)
    by false false f g = ltb-false _ _ f

asked-fewer : (s ks : List ℕ) → length (ask_places s ks) ≤ length (servers_at s ks)
unfolding ask_places servers_at pick
asked-fewer s [] = omega arith
asked-fewer s (k ∷ ks) = by (askable (server_at s k)) (asked-fewer s ks)
  where
    by : (b : Bool) → length (ask_places s ks) ≤ length (servers_at s ks)
        → length (pick b (k ∷ ask_places s ks) (ask_places s ks)) ≤ suc (length (servers_at s ks))
    by true h = omega arith
    by false h = omega arith

-- all sources are URLs, also where there is no member
sources-all : (s : List ℕ) (f : Found) → sources_good s f ≡ true → all_urls s (source_places s f) ≡ true
unfolding sources_good source_places places_in array_of all_urls
sources-all s (FoundAt k) e = both-two _ _ e
sources-all s Nothing e = refl
sources-all s Twice e = absurd (true≢false (sym e))

-- ---- The parts of a good server object.
named : (s : List ℕ) (k : ℕ) → server_good s k ≡ true → is_some (text_by s (of_server s k name_name)) ≡ true
unfolding server_good
named s k e = both_one _ _ (both-two _ _ e)

addresses-all : (s : List ℕ) (k : ℕ) → server_good s k ≡ true → all_addresses s (address_places s k) ≡ true
unfolding server_good addresses_good address_places
addresses-all s k e =
    both-two _ _ (both-two _ _ (both-two _ _ (both-two _ _ (both-two _ _ (both-two _ _ e)))))

pub server-inside : (s : List ℕ) {k : ℕ} → server_good s k ≡ true → k < length s
unfolding server_good
server-inside s {k} e = inside {k = get_or s k 0} s refl (eqb-true _ _ (both_one (eqb (get_or s k 0) 123) _ e)) tt

address-inside : (s : List ℕ) {m : ℕ} → address_good s m ≡ true → m < length s
unfolding address_good
address-inside s {m} e = inside {k = get_or s m 0} s refl (eqb-true _ _ (both_one (eqb (get_or s m 0) 123) _ e)) tt

addressed-text : (s : List ℕ) (m : ℕ) → address_good s m ≡ true
    → octets (plain (text_by s (of_address s m address_name))) ≡ text_by s (of_address s m address_name)
unfolding address_good
addressed-text s m e = place-text (text_by s (of_address s m address_name)) (both-two _ _ (both-two _ _ e))

module _ (s : List ℕ) (k j : ℕ) {f : Found} {x : Option ℕ} (q : f ≡ of_server s k addresses_name)
    (e : x ≡ item_in (places_in s in_addresses (array_of s f)) j) where
  at_address : x ≡ item_in (address_places s k) j
  unfolding address_places
  at_address = e ∙ ap (λ g. item_in (places_in s in_addresses (array_of s g)) j) q

  module _ (g : server_good s k ≡ true) {m : ℕ} (h : x ≡ Some m) where
    good : address_good s m ≡ true
    good = addresses-good s (address_places s k) j (addresses-all s k g) (sym h ∙ at_address)

    pub item-inside : m < length s
    item-inside = address-inside s good

    pub item-address : address_of (server_at s k) j ≡ text_by s (of_address s m address_name)
    unfolding address_of server_at address_at
    item-address =
        nth-addresses none s place_of (address_places s k) j
        ∙ nth-at none (λ n. place_of (address_at s n)) (address_places s k) j (sym h ∙ at_address)
        ∙ addressed-text s m good

    pub item-tcp : tcp_of (server_at s k) j ≡ (address_at s m).tcp
    unfolding tcp_of server_at
    item-tcp =
        nth-addresses false s is_tcp (address_places s k) j
        ∙ nth-at false (λ n. is_tcp (address_at s n)) (address_places s k) j (sym h ∙ at_address)

  pub item-lacks : x ≡ None → address_of (server_at s k) j ≡ none
  unfolding address_of server_at
  item-lacks h =
      nth-addresses none s place_of (address_places s k) j
      ∙ nth-done none (λ n. place_of (address_at s n)) (address_places s k) j (sym h ∙ at_address)

module _ (s : List ℕ) {y : Survey} (v : Surveys s (Ok y)) where
  pub is-list : is_list s ≡ true
  unfolding list_of pick
  is-list = by (is_list s) refl
    where
      by : (b : Bool) → is_list s ≡ b → is_list s ≡ true
      by true e = e
      by false e = absurd (code-none (list_of s) v.0 (rw e refl))

  pub list-is : list_of s ≡ this (listed s)
  unfolding list_of pick
  list-is = rw is-list refl

  pub sources-right : sources_good s (sources_member s) ≡ true
  unfolding is_list
  sources-right = both_one _ _ (both-two _ _ is-list)

  pub servers-all : all_servers s (server_places s) ≡ true
  unfolding is_list
  servers-all = both-two _ _ (both-two _ _ (both-two _ _ is-list))

  pub asked-most : y.asked ≤ 64
  unfolding list_code listed
  asked-most =
      omega (
        arith,
        v.1.asked,
        asked-fewer s (server_places s),
        size-most (servers_at s (server_places s)) (sym (ap list_code list-is) ∙ v.0),
      )

  pub asked-room : y.asked ≤ length y.places
  asked-room = omega (arith, v.1.asked, simp length-take at (ap length v.1.places))

  -- ---- The parts, by the places of what says them.
  at_place : (i : ℕ) → item_in (take y.asked y.places) i ≡ item_in (ask_places s (server_places s)) i
  at_place i = ap (λ ks. item_in ks i) v.1.places

  module _ (i : ℕ) {x : Option ℕ} (e : x ≡ item_in (take y.asked y.places) i) where
    at-server : {k : ℕ} → x ≡ Some k → Some k ≡ item_in (ask_places s (server_places s)) i
    at-server h = sym h ∙ e ∙ at_place i

    no-server : x ≡ None → None ≡ item_in (ask_places s (server_places s)) i
    no-server h = sym h ∙ e ∙ at_place i

    pub server-good : {k : ℕ} → x ≡ Some k → server_good s k ≡ true
    server-good h = servers-good s (server_places s) i servers-all (at-server h)

    said : {B : Type 0} (d : B) (f : Server → B) {k : ℕ} → x ≡ Some k
        → nth d f (askables (servers_at s (server_places s))) i ≡ f (server_at s k)
    said d f h =
        nth-servers d s f (server_places s) i ∙ nth-at d (λ m. f (server_at s m)) (ask_places s (server_places s)) i
        (at-server h)

    unsaid : {B : Type 0} (d : B) (f : Server → B) → x ≡ None → nth d f (askables (servers_at s (server_places s))) i ≡ d
    unsaid d f h =
        nth-servers d s f (server_places s) i ∙ nth-done d (λ m. f (server_at s m)) (ask_places s (server_places s)) i
        (no-server h)

    pub name-at : {k : ℕ} {g : Found} → x ≡ Some k → g ≡ of_server s k name_name → name_in (list_of s) i ≡ text_by s g
    unfolding name_in listed server_at
    name-at {k} h q =
        ap (λ l. name_in l i) list-is ∙ said none name_of h ∙ some-text _ (named s k (server-good h)) ∙ ap (text_by s)
        (sym q)

    pub name-none : x ≡ None → name_in (list_of s) i ≡ none
    unfolding name_in listed
    name-none h = ap (λ l. name_in l i) list-is ∙ unsaid none name_of h

    pub address-at : (j : ℕ) {k : ℕ} → x ≡ Some k → address_in (list_of s) i j ≡ address_of (server_at s k) j
    unfolding address_in listed
    address-at j h = ap (λ l. address_in l i j) list-is ∙ said none (λ w. address_of w j) h

    pub tcp-at : (j : ℕ) {k : ℕ} → x ≡ Some k → tcp_in (list_of s) i j ≡ tcp_of (server_at s k) j
    unfolding tcp_in listed
    tcp-at j h = ap (λ l. tcp_in l i j) list-is ∙ said false (λ w. tcp_of w j) h

    pub address-none : (j : ℕ) → x ≡ None → address_in (list_of s) i j ≡ none
    unfolding address_in listed
    address-none j h = ap (λ l. address_in l i j) list-is ∙ unsaid none (λ w. address_of w j) h

  module _ (i : ℕ) {x : Option ℕ} (e : x ≡ item_in (places_in s in_servers (array_of s y.sources)) i) where
    at_source : x ≡ item_in (source_places s (sources_member s)) i
    unfolding source_places
    at_source = e ∙ ap (λ f. item_in (places_in s in_servers (array_of s f)) i) v.1.sources

    pub source-at : {k : ℕ} → x ≡ Some k → source_in (list_of s) i ≡ text_by s (FoundAt k)
    unfolding source_in listed url_at
    source-at {k} h =
        ap (λ l. source_in l i) list-is ∙ nth-urls none s octets (source_places s (sources_member s)) i
        ∙ nth-at none (λ m. octets (plain (url_at s m))) (source_places s (sources_member s)) i (sym h ∙ at_source)
        ∙ url-text (url_at s k)
        (urls-good s (source_places s (sources_member s)) i (sources-all s (sources_member s) sources-right)
        (sym h ∙ at_source))

    pub source-none : x ≡ None → source_in (list_of s) i ≡ none
    unfolding source_in listed
    source-none h =
        ap (λ l. source_in l i) list-is ∙ nth-urls none s octets (source_places s (sources_member s)) i
        ∙ nth-done none (λ m. octets (plain (url_at s m))) (source_places s (sources_member s)) i (sym h ∙ at_source)

  pub reports-at : reports_in (list_of s) ≡ text_by s y.reports
  unfolding reports_in listed
  reports-at = ap reports_in list-is ∙ ap (text_by s) (sym v.1.reports)
