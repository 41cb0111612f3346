-- Laws for the returns of the small readers: strings, texts, keys, addresses, and a server object by its members.
use Rattle.std.specs.Prelude.{None, Option, Some}
use Prim.Native.Nat.{ℕ, suc, ◌+◌, ◌-◌, ◌≤◌, ◌<◌}
use mathlib.Core.Path.{◌≡◌, refl, sym, ◌∙◌, ap}
use mathlib.Core.Bool.{Bool, true, false, not}
use mathlib.Core.List.{List, [], ◌∷◌}
use native.Mathlib.Omega.{arith}
use lib.Dec.{eqb, ltb}
use lib.ListN.{length, get_or, take, drop, length-drop}
use lib.Seq.{take-append_seam, length-take-le}
use borrow.Author.Tests.{eqb-true, eq-eqb, ne_eqb, le-leb, lt-leb, not-true, not-false}
use Rattle.laws.specs.Pick.{pick, both}
use Rattle.laws.specs.Pasted.{fronted}
use Rattle.json_tokens.specs.Scan.{past_while}
use Rattle.json_tokens.proofs.Picks.{inside}
use Rattle.json_tokens.proofs.While.{while-ahead}
use Rattle.json_strings.specs.Text.{unescaped, content_at, same_list}
use Rattle.json_text.specs.Octets.{Text, octets, none, text_of, plain, size_of}
use Rattle.json_text.specs.Facts.{good}
use Rattle.json_text.proofs.NoEscapes.{plain-text}
use Rattle.json_values.specs.declared.Found.{Found}
use Rattle.json_values.specs.declared.Found.TheVariants.{At, Nothing, Twice}
use Rattle.json_values.specs.Members.{found_of}
use Rattle.json_values.specs.Value.{value_at, object_of}
use Rattle.json_values.proofs.Ahead.{value-is, object-is}
use Rattle.base64_strict.specs.Decode.{decode64}
use Rattle.report_read.specs.Entry.{string_of, elements_of, size_in, held}
use Rattle.report_read.specs.Entry.{list_of as array_of}
use Rattle.list_read.proofs.Small.{both-no, both-on, both-no-eq, both-on-eq, size-good, size-no-good, size-length}
use Rattle.list_address.specs.Address.{is_address}
use Rattle.list_address.specs.Https.{is_https}
use Rattle.list_read.specs.declared.SeenAddress.{SeenAddress}
use Rattle.list_read.specs.declared.ServerParts.{ServerParts}
use Rattle.list_read.specs.declared.Seen.{Seen}
use Rattle.list_read.specs.declared.Sort.{Sort}
use Rattle.list_read.specs.declared.Sort.TheVariants.{Place, Url}
use Rattle.list_read.specs.Server.{is_some, text_in, text_by, version_by, content_in, is_there, key_by, passes, is_word}
use Rattle.list_read.specs.Server.{is_protocol, is_place, of_address, address_good, addresses_at, places_in}
use Rattle.list_read.specs.Server.{addresses_good, of_server, address_places, server_good, server_at, askable}
use Rattle.list_read.specs.Server.{in_address, in_addresses, in_server, in_servers, protocol_name, address_name, name_name}
use Rattle.list_read.specs.Server.{version_name, scheme_name, key_name, addresses_name}
use Rattle.list_read.specs.Read.{is_crowded}
use Rattle.list_read.specs.Facts.{of_sort, address_seen, counted_of, counted_in, parts_good, may_ask, seen_by, seen_of}

-- ---- Words.
same_none : (w : List ℕ) → eqb (length w) 0 ≡ same_list [] w
unfolding same_list
same_none [] = refl
same_none (x ∷ w) = ne_eqb (length (x ∷ w)) 0 (λ h. omega arith)

module _ (s : List ℕ) (x : Option ℕ) (w : List ℕ) where
  pub word_at : {p : ℕ} {r : Bool} → x ≡ Some p → r ≡ same_list (content_at s p) w → r ≡ is_word s x w
  unfolding is_word content_in
  word_at h g = rw h g

  pub word_none : x ≡ None → eqb (length w) 0 ≡ is_word s x w
  unfolding is_word content_in
  word_none h = rw h (same_none w)

-- ---- Keys.
module _ (s : List ℕ) (f : Found) {x : Option ℕ} (e : x ≡ string_of s f) where
  pub key-none : x ≡ None → None ≡ size_in (key_by s f)
  unfolding size_in key_by
  key-none h = rw (sym e ∙ h) refl

  pub key-at : {p : ℕ} {r : Option ℕ} → x ≡ Some p → r ≡ size_in (decode64 (content_at s p)) → r ≡ size_in (key_by s f)
  unfolding key_by
  key-at h g = rw (sym e ∙ h) g

-- ---- Texts.
of-octets : (t : Text) {n : ℕ} → Some n ≡ size_of 0 t → (t ≡ octets (plain t)) × (n ≡ length (plain t))
of-octets (octets x) {n} q = let z : n ≡ 0 + length x = cc in (refl, omega arith)
of-octets none {n} q = let z : ◌≡◌ {A = ℕ} 0 1 = cc in absurd (omega arith)

of_none : (t : Text) → None ≡ size_of 0 t → t ≡ none
of_none (octets x) q = let z : ◌≡◌ {A = ℕ} 0 1 = cc in absurd (omega arith)
of_none none q = refl

front-part : (b y o : List ℕ) (n : ℕ) → b ≡ fronted y o → n ≡ length y → take (n - 0) (drop 0 b) ≡ y
front-part b y o n e h =
    let z : n - 0 ≡ length y = omega arith in
    ap (λ k. take k b) z ∙ ap (take (length y)) e ∙ take-append_seam y (drop (length y) o)

passes-long : (p : List ℕ → Bool) (x : List ℕ) → 2048 < length x → false ≡ passes p (octets x)
unfolding passes both
passes-long p x h = rw (lt-leb (length x) 2048 h) refl

passes_on : (p : List ℕ → Bool) (x : List ℕ) → length x ≤ 2048 → p x ≡ passes p (octets x)
unfolding passes both
passes_on p x h = rw (le-leb (length x) 2048 h) refl

some_good : (t : Text) → good t ≡ is_some t
unfolding is_some
some_good (octets x) = refl
some_good none = refl

-- what a text is looked at for
pub of-place : {y : Sort} {r : Bool} (x : List ℕ) → y ≡ Place → r ≡ is_address x → r ≡ of_sort y x
unfolding of_sort
of-place x h g = rw h g

pub of-url : {y : Sort} {r : Bool} (x : List ℕ) → y ≡ Url → r ≡ is_https x → r ≡ of_sort y x
unfolding of_sort
of-url x h g = rw h g

-- a member that is a string
module _ (s : List ℕ) (f : Found) {x : Option ℕ} (e : x ≡ string_of s f) where
  text-none : x ≡ None → text_by s f ≡ none
  unfolding text_by text_in
  text-none h = rw (sym e ∙ h) refl

  text-some : {p : ℕ} → x ≡ Some p → text_by s f ≡ text_of (content_at s p)
  unfolding text_by text_in
  text-some h = rw (sym e ∙ h) refl

  pub has-none : x ≡ None → false ≡ is_some (text_by s f)
  unfolding is_some
  has-none h = rw (text-none h) refl

  pub has_some : {p : ℕ} {r : Bool} → x ≡ Some p → r ≡ good (text_of (content_at s p)) → r ≡ is_some (text_by s f)
  has_some h g = g ∙ some_good _ ∙ ap is_some (sym (text-some h))

  pub pass-none : (q : List ℕ → Bool) → x ≡ None → false ≡ passes q (text_by s f)
  unfolding passes
  pass-none q h = rw (text-none h) refl

  pub pass-some : (q : List ℕ → Bool) {p : ℕ} {r : Bool} → x ≡ Some p → r ≡ passes q (text_of (content_at s p))
      → r ≡ passes q (text_by s f)
  pass-some q h g = g ∙ ap (passes q) (sym (text-some h))

pub ruleset texts = (has-none, has_some, pass-none, pass-some)

-- a text that is written out
module _ (t : Text) {y : Option ℕ} (g : y ≡ size_of 0 t) where
  pub pass-bad : (q : List ℕ → Bool) → y ≡ None → false ≡ passes q t
  unfolding passes
  pass-bad q i = rw (of_none t (sym i ∙ g)) refl

  module _ {n : ℕ} (i : y ≡ Some n) where
    is-octets : t ≡ octets (plain t)
    is-octets = (of-octets t (sym i ∙ g)).0

    is-long : n ≡ length (plain t)
    is-long = (of-octets t (sym i ∙ g)).1

    pub pass-long : (q : List ℕ → Bool) → 2048 < n → false ≡ passes q t
    pass-long q l = passes-long q (plain t) (omega (arith, is-long)) ∙ ap (passes q) (sym is-octets)

    pub text-good : good t ≡ true
    text-good = ap good is-octets

    pub text-fits : n ≤ 2048 → length (plain t) ≤ 2048
    text-fits l = omega (arith, is-long)

    pub pass-done : (q : List ℕ → Bool) (b o : List ℕ) {r : Bool} → n ≤ 2048 → b ≡ fronted (plain t) o
        → r ≡ q (take (n - 0) (drop 0 b)) → r ≡ passes q t
    pass-done q b o l j k =
        k ∙ ap q (front-part b (plain t) o n j is-long) ∙ passes_on q (plain t) (omega (arith, is-long))
        ∙ ap (passes q) (sym is-octets)

-- a text that stands there
module _ (s : List ℕ) {e b : ℕ} (p : ℕ) (h : e ≡ past_while unescaped s p) (g : b ≡ get_or s e 0) (i : b ≡ 34) where
  pub there-ahead : p ≤ e
  there-ahead = omega (arith, while-ahead unescaped s p)

  pub there-inside : e ≤ length s
  there-inside = omega (arith, inside s g i tt)

  there-length : length (take (e - p) (drop p s)) ≡ e - p
  there-length = length-take-le (e - p) (drop p s) (omega (arith, length-drop p s, there-inside, there-ahead))

  pub there-long : (q : List ℕ → Bool) → 2048 < e - p → false ≡ passes q (text_of (content_at s p))
  there-long q l =
      passes-long q (take (e - p) (drop p s)) (omega (arith, there-length))
      ∙ ap (passes q) (sym (plain-text s p h g i))

  pub there-done : (q : List ℕ → Bool) {r : Bool} → e - p ≤ 2048 → r ≡ q (take (e - p) (drop p s))
      → r ≡ passes q (text_of (content_at s p))
  there-done q l j =
      j ∙ passes_on q (take (e - p) (drop p s)) (omega (arith, there-length))
      ∙ ap (passes q) (sym (plain-text s p h g i))

-- ---- A value that is an object.
pub ends-at : (s : List ℕ) (d k : ℕ) → (d ≡ 0 → ⊥) → eqb (get_or s k 0) 123 ≡ true
    → value_at s d k ≡ object_of s (value_at s (d - 1)) k
unfolding pick
ends-at s d k h e = value-is s d k ∙ rw e (object-is s d k h)

-- ---- An address object.
seen_no : (s : List ℕ) (k : ℕ) → false ≡ address_good s k → None ≡ address_seen s k
unfolding address_seen pick
seen_no s k h = rw (sym h) refl

module _ (s : List ℕ) (k : ℕ) {b : ℕ} (e : b ≡ get_or s k 0) where
  pub address-brace : (b ≡ 123 → ⊥) → None ≡ address_seen s k
  unfolding address_good
  address-brace h = seen_no s k (both-no-eq _ e h)

  module _ (h : b ≡ 123) {f : Found} (i : f ≡ found_of s protocol_name in_address k) {x : Option ℕ} (j : x ≡ string_of s f)
      {t : Bool} (g : t ≡ is_protocol s x) where
    of-protocol : t ≡ is_protocol s (string_of s (of_address s k protocol_name))
    unfolding of_address
    of-protocol = g ∙ ap (is_protocol s) (j ∙ ap (string_of s) i)

    pub address-protocol : not t ≡ true → None ≡ address_seen s k
    unfolding address_good
    address-protocol l = seen_no s k (both-on-eq e h (both-no _ of-protocol l))

    module _ (l : not t ≡ false) {u : Found} (m : u ≡ found_of s address_name in_address k) {w : Bool}
        (n : w ≡ is_place (text_by s u)) where
      good-is : w ≡ address_good s k
      unfolding address_good of_address
      good-is = both-on-eq e h (both-on of-protocol l (n ∙ ap (λ q. is_place (text_by s q)) m))

      pub address-wrong : not w ≡ true → None ≡ address_seen s k
      address-wrong o = seen_no s k (sym (not-true w o) ∙ good-is)

      pub address-right : {end : Option ℕ} → end ≡ object_of s (value_at s in_address) k → not w ≡ false
          → Some (record { end = end }) ≡ address_seen s k
      unfolding address_seen pick
      address-right q o =
          let z : value_at s in_addresses k ≡ object_of s (value_at s in_address) k =
          ends-at s in_addresses k (λ y. omega arith) (eq-eqb (get_or s k 0) 123 (sym e ∙ h)) in
          rw (sym good-is ∙ not-false w o) (ap (λ (e : Option ℕ). Some (record { end = e })) (q ∙ sym z))

pub ruleset address = (address-brace, address-protocol, address-wrong, address-right)

-- ---- Lists of addresses.
array-at : (s : List ℕ) (u v : ℕ) (b : Bool) → eqb (get_or s u 0) 91 ≡ b → pick b (Some u) None ≡ Some v → v < length s
unfolding pick
array-at s u v true e q = let z : u ≡ v = cc in omega (arith, inside {k = get_or s u 0} s refl (eqb-true _ _ e) tt)
array-at s u v false e q = let z : ◌≡◌ {A = ℕ} 0 1 = cc in absurd (omega arith)

array-found : (s : List ℕ) (f : Found) (v : ℕ) → array_of s f ≡ Some v → v < length s
unfolding array_of
array-found s (At u) v q = array-at s u v _ refl q
array-found s Nothing v q = let z : ◌≡◌ {A = ℕ} 0 1 = cc in absurd (omega arith)
array-found s Twice v q = let z : ◌≡◌ {A = ℕ} 0 1 = cc in absurd (omega arith)

pub array-inside : {x : Option ℕ} {v : ℕ} (s : List ℕ) (f : Found) → x ≡ array_of s f → x ≡ Some v → v < length s
array-inside s f e h = array-found s f _ (sym e ∙ h)

module _ (s : List ℕ) (f : Found) {x : Option ℕ} (e : x ≡ array_of s f) where
  pub counted_none : x ≡ None → None ≡ counted_in s (array_of s f)
  unfolding counted_in
  counted_none h = rw (sym e ∙ h) refl

  pub counted-at : {v : ℕ} {r : Option ℕ} → x ≡ Some v → r ≡ counted_of s (elements_of s in_addresses v)
      → r ≡ counted_in s (array_of s f)
  unfolding counted_in
  counted-at h g = rw (sym e ∙ h) g

-- what a count says
counted_pick : (b : Bool) (n : ℕ) {m : ℕ} → Some m ≡ pick b (Some n) None → (b ≡ true) × (m ≡ n)
unfolding pick
counted_pick true n q = (refl, cc)
counted_pick false n q = let z : ◌≡◌ {A = ℕ} 0 1 = cc in absurd (omega arith)

counted-pick-no : (b : Bool) (n : ℕ) → None ≡ pick b (Some n) None → b ≡ false
unfolding pick
counted-pick-no true n q = let z : ◌≡◌ {A = ℕ} 0 1 = cc in absurd (omega arith)
counted-pick-no false n q = refl

counted-good : (s : List ℕ) (x : Option ℕ) {m : ℕ} → Some m ≡ counted_in s x
    → (true ≡ addresses_good s x) × (m ≡ length (places_in s in_addresses x))
unfolding counted_in counted_of addresses_good is_there places_in both
counted-good s (Some v) q = let z = counted_pick _ _ q in (sym z.0, z.1)
counted-good s None q = let z : ◌≡◌ {A = ℕ} 0 1 = cc in absurd (omega arith)

counted-bad : (s : List ℕ) (x : Option ℕ) → None ≡ counted_in s x → false ≡ addresses_good s x
unfolding counted_in counted_of addresses_good is_there places_in both
counted-bad s (Some v) q = sym (counted-pick-no _ _ q)
counted-bad s None q = refl

-- ---- A server object by its members.
seen-wrong : (s : List ℕ) (ps : ServerParts) (end : Option ℕ) → false ≡ parts_good s ps
    → None ≡ seen_by s ps end
unfolding seen_by pick
seen-wrong s ps end h = rw (sym h) refl

there-no : {x y : Option ℕ} → x ≡ y → x ≡ None → false ≡ is_there y
unfolding is_there
there-no e h = rw (sym e ∙ h) refl

there-yes : {x y : Option ℕ} {p : ℕ} → x ≡ y → x ≡ Some p → true ≡ is_there y
unfolding is_there
there-yes e h = rw (sym e ∙ h) refl

first-no : {b : Bool} (q : Bool) → false ≡ b → false ≡ both b q
unfolding both
first-no q h = rw (sym h) refl

next-is : {b r q : Bool} → true ≡ b → r ≡ q → r ≡ both b q
unfolding both
next-is h g = rw (sym h) g

module _ (s : List ℕ) (ps : ServerParts) (end : Option ℕ) {t : Bool} (i : t ≡ is_some (text_by s ps.name)) where
  pub seen-name : not t ≡ true → None ≡ seen_by s ps end
  unfolding parts_good
  seen-name h = seen-wrong s ps end (both-no _ i h)

  module _ (h : not t ≡ false) {u : Bool} (j : u ≡ is_some (version_by s ps.version)) where
    pub seen-version : not u ≡ true → None ≡ seen_by s ps end
    unfolding parts_good
    seen-version g = seen-wrong s ps end (both-on i h (both-no _ j g))

    module _ (g : not u ≡ false) {x : Option ℕ} (k : x ≡ string_of s ps.scheme) where
      pub seen-scheme : x ≡ None → None ≡ seen_by s ps end
      unfolding parts_good
      seen-scheme l = seen-wrong s ps end (both-on i h (both-on j g (first-no _ (there-no k l))))

      module _ {p : ℕ} (l : x ≡ Some p) {y : Option ℕ} (m : y ≡ size_in (key_by s ps.key)) where
        pub seen_key : y ≡ None → None ≡ seen_by s ps end
        unfolding parts_good
        seen_key o =
            seen-wrong s ps end
            (both-on i h (both-on j g (next-is (there-yes k l) (first-no _ (size-no-good _ m o)))))

        module _ {n : ℕ} (o : y ≡ Some n) {z : Option ℕ} (q : z ≡ counted_in s (array_of s ps.addresses)) where
          pub seen-addresses : z ≡ None → None ≡ seen_by s ps end
          unfolding parts_good
          seen-addresses w =
              seen-wrong s ps end
              (both-on i h (both-on j g (next-is (there-yes k l) (next-is (size-good _ m o)
              (counted-bad s (array_of s ps.addresses) (sym w ∙ q))))))

          pub seen-right : {v : ℕ} {r : Bool} → z ≡ Some v → r ≡ may_ask s ps.version (Some p) n
              → Some (record { asks = r; crowded = ltb 8 v; end = end }) ≡ seen_by s ps end
          unfolding seen_by parts_good pick
          seen-right {v} {r} w x₁ =
              let f = counted-good s (array_of s ps.addresses) (sym w ∙ q) in
              let g₁ : true ≡ parts_good s ps =
              both-on i h (both-on j g (next-is (there-yes k l) (next-is (size-good _ m o) f.0))) in
              let y₁ : r ≡ may_ask s ps.version (string_of s ps.scheme) (length (held (key_by s ps.key))) =
              x₁ ∙ ap (λ x₂. may_ask s ps.version x₂ n) (sym l ∙ k) ∙ ap (may_ask s ps.version (string_of s ps.scheme)) (size-length _ m o) in
              rw (sym g₁) (rw (sym y₁, sym f.1) refl)

pub ruleset seen = (seen-name, seen-version, seen-scheme, seen_key, seen-addresses, seen-right)

-- ---- A server object at its place.
length-addresses : (s ks : List ℕ) → length (addresses_at s ks) ≡ length ks
unfolding addresses_at
length-addresses s [] = refl
length-addresses s (k ∷ ks) = ap suc (length-addresses s ks)

by_parts : (s : List ℕ) (k : ℕ) → eqb (get_or s k 0) 123 ≡ true
    → seen_by s (record {
      name = of_server s k name_name;
      version = of_server s k version_name;
      scheme = of_server s k scheme_name;
      key = of_server s k key_name;
      addresses = of_server s k addresses_name;
    }) (object_of s (value_at s in_server) k) ≡ seen_of s k
unfolding seen_by seen_of server_good parts_good both may_ask is_word askable server_at is_crowded address_places
by_parts s k e = rw (ends-at s in_servers k (λ z. omega arith) e) (rw e (rw (length-addresses s (places_in s in_addresses (array_of s (of_server s k addresses_name)))) refl))

module _ (s : List ℕ) (k : ℕ) {b : ℕ} (e : b ≡ get_or s k 0) where
  pub see-brace : (b ≡ 123 → ⊥) → None ≡ seen_of s k
  unfolding seen_of server_good both pick
  see-brace h = rw (ne_eqb (get_or s k 0) 123 (λ z. h (e ∙ z))) refl

  pub see-parts : b ≡ 123 → {n v c y a : Found} {end : Option ℕ} {r : Option Seen} → n ≡ found_of s name_name in_server k
      → v ≡ found_of s version_name in_server k → c ≡ found_of s scheme_name in_server k
      → y ≡ found_of s key_name in_server k → a ≡ found_of s addresses_name in_server k
      → end ≡ object_of s (value_at s in_server) k
      → r ≡ seen_by s (record { name = n; version = v; scheme = c; key = y; addresses = a }) end → r ≡ seen_of s k
  unfolding of_server
  see-parts h i j l m o q g =
      rw (i, j, l, m, o, q) at g ∙ by_parts s k (eq-eqb (get_or s k 0) 123 (sym e ∙ h))
