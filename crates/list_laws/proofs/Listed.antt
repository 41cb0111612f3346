-- The reader's definition finds a server list in a text exactly where the text is one by 8.3's sentences, and what it
-- finds is what they say of it.
use Rattle.std.specs.Prelude.{None, Option, Some}
use Prim.Native.Nat.{ℕ}
use mathlib.Core.Path.{◌≡◌, refl, sym, ◌∙◌, ap, ap₂, subst}
use mathlib.Core.Bool.{Bool, true, false}
use mathlib.Core.List.{List, [], ◌∷◌}
use mathlib.Core.Logic.{◌↔◌}
use native.Mathlib.Omega.{arith}
use borrow.Author.Tests.{eq-eqb, eqb-true}
use lib.Dec.{eqb}
use lib.ListN.{get_or}
use Rattle.laws.specs.Ascii.{ascii}
use Rattle.laws.specs.Pick.{pick, either, both}
use Rattle.json_tokens.specs.Scan.{past_while, blank}
use Rattle.json_strings.specs.Text.{same_list}
use Rattle.json_text.specs.Octets.{Text, plain}
use Rattle.json_values.specs.declared.Found.{Found}
use Rattle.json_values.specs.declared.Found.TheVariants.{At as Stands, Nothing}
use Rattle.json_values.specs.Value.{is_text}
use Rattle.json_values.specs.Members.{members_of, found_of}
use Rattle.report_read.specs.Entry.{string_of, is64, held, list_of as array_of}
use Rattle.list_address.specs.Address.{is_address}
use Rattle.list_address.specs.Https.{is_https}
use Rattle.list_read.specs.Server.{Address, Server, name_name, version_name, scheme_name, key_name, addresses_name}
use Rattle.list_read.specs.Server.{protocol_name, address_name, text_in, text_by, is_some, content_in, is_there, is_place}
use Rattle.list_read.specs.Server.{of_address, is_word, is_protocol, address_good, address_at, all_addresses, addresses_at}
use Rattle.list_read.specs.Server.{places_in, addresses_good, of_server, address_places, server_good, server_at}
use Rattle.list_read.specs.Listed.{Listed, servers_name, sources_name, reports_name, is_url, url_at, all_urls, urls_at}
use Rattle.list_read.specs.Listed.{source_places, sources_good, reports_good, all_servers, servers_at, root_place, of_root}
use Rattle.list_read.specs.Listed.{servers_member, sources_member, reports_member, server_places, is_list, listed, Lists}
use Rattle.list_read.specs.Listed.{this, unread, list_of}
use Rattle.json_laws.specs.Abnf.{JSON-text}
use Rattle.json_laws.specs.Tree.{Json, Member, text_tree, Named}
use Rattle.json_laws.proofs.Exactly.{is-json}
use Rattle.json_laws.proofs.Spans.{both-parts}
use Rattle.json_laws.proofs.At.{At, MemberAt, Each, none as no_place, one as a-place}
use Rattle.json_laws.proofs.Tree.{text_at, one-tree}
use Rattle.json_laws.proofs.Paired.{narrow}
use Rattle.json_laws.proofs.Found.{Finds, finds-none, finds-one, finds-more, members-found, values_of}
use Rattle.json_laws.proofs.Values.{object-is, object-at}
use Rattle.list_laws.specs.Listing.{Just, TextString, TestedString, Integer, Base64, Characters, protocol_of}
use Rattle.list_laws.specs.Listing.{AddressObject, AddressObjects, no_address, an-address, AddressList}
use Rattle.list_laws.specs.Listing.{ServerObject, ServerObjects, no-server, a-server, ServerList, Urls, no-url}
use Rattle.list_laws.specs.Listing.{a-url, UrlList, Sources, no-sources, the-sources, Reports, no-reports}
use Rattle.list_laws.specs.Listing.{the-reports, ListTree, ListText, spelt, spelt_all, spelt_list, told}
use Rattle.list_laws.proofs.Strings.{never, is_one, string-one, array-one, version-one, just-one, string-found}
use Rattle.list_laws.proofs.Strings.{text-found, key-found, string-is-there, text-stands, key-stands}
use Rattle.list_laws.proofs.Strings.{tested-found, tested-stands, tested-one, text-one, key_one, word-one}
use Rattle.list_laws.proofs.Strings.{word-found, word_stands, version-stands, version-found, array-found}
use Rattle.list_laws.proofs.Strings.{array-stands, some-octets, passes-some}

-- ---- The names.
server-names : (narrow name_name ≡ true) × (narrow version_name ≡ true) × (narrow scheme_name ≡ true)
    × (narrow key_name ≡ true) × (narrow addresses_name ≡ true)
unfolding both
server-names = (refl, refl, refl, refl, refl)

address-names : (narrow protocol_name ≡ true) × (narrow address_name ≡ true) × (narrow (ascii "tcp") ≡ true)
    × (narrow (ascii "udp") ≡ true)
unfolding both
address-names = (refl, refl, refl, refl)

list-names : (narrow servers_name ≡ true) × (narrow sources_name ≡ true) × (narrow reports_name ≡ true)
unfolding both
list-names = (refl, refl, refl)

-- ---- The members of the object at a place, and those of its tree.
module _ (s : List ℕ) (d k : ℕ) (ms : List Member) (each : Each (MemberAt s d) (members_of s d k) ms) (w : List ℕ)
    (low : narrow w ≡ true) where
  member-just : (P : Json → Type 0) → is_one (found_of s w d k) ≡ true
      → ((t : Json) → Finds s d (found_of s w d k) (t ∷ []) → P t) → Just ms w P
  member-just P h g =
      let v = values_of w ms in
      just-one P (members-found s d w low k ms v.list each v.are) v.are h g

  member-finds : {P : Json → Type 0} (j : Just ms w P) → Finds s d (found_of s w d k) (j.value ∷ [])
  member-finds j = members-found s d w low k ms _ each j.once

-- ---- Protocols.
either_first : (p : Bool) → either p false ≡ true → p ≡ true
unfolding either
either_first true h = refl
either_first false h = h

module _ (s : List ℕ) where
  protocol-is : (b : Bool) (x : Option ℕ) → content_in s x ≡ protocol_of b
      → (is_protocol s x ≡ true) × (is_word s x (ascii "tcp") ≡ b)
  unfolding is_protocol is_word same_list both either
  protocol-is true x e = (rw e refl, rw e refl)
  protocol-is false x e = (rw e refl, rw e refl)

  protocol-stands : {d : ℕ} (f : Found) (b : Bool) {t : Json} → Characters (protocol_of b) t → Finds s d f (t ∷ [])
      → content_in s (string_of s f) ≡ protocol_of b
  protocol-stands f true e g = word_stands s f 116 (99 ∷ 112 ∷ []) address-names.2 e g
  protocol-stands f false e g = word_stands s f 117 (100 ∷ 112 ∷ []) address-names.3 e g

  -- ---- An address object.
  module _ (k : ℕ) (ms : List Member) (each : Each (MemberAt s 11) (members_of s 11 k) ms) where
    protocol-by : (b : Bool) → is_word s (string_of s (found_of s protocol_name 11 k)) (ascii "tcp") ≡ b
        → either (is_word s (string_of s (found_of s protocol_name 11 k)) (ascii "udp")) b ≡ true
        → Just ms protocol_name (Characters (protocol_of b))
    protocol-by true e h =
        member-just s 11 k ms each protocol_name address-names.0 (Characters (ascii "tcp"))
        (word-one s _ 116 (99 ∷ 112 ∷ []) address-names.2 e)
        (λ t g. word-found s _ 116 (99 ∷ 112 ∷ []) address-names.2 t g e)
    protocol-by false e h =
        let u = either_first _ h in
        member-just s 11 k ms each protocol_name address-names.0 (Characters (ascii "udp"))
        (word-one s _ 117 (100 ∷ 112 ∷ []) address-names.3 u)
        (λ t g. word-found s _ 117 (100 ∷ 112 ∷ []) address-names.3 t g u)

  address-found : (k : ℕ) (t : Json) → At s 12 k t → address_good s k ≡ true → AddressObject t (address_at s k)
  unfolding address_good address_at of_address is_place is_protocol
  address-found k t v h =
      let a = both-parts _ _ h in
      let b = both-parts _ _ a.1 in
      let o = object-is {d = 11} v (eqb-true _ 123 a.0) in
      record {
        list = o.list;
        object = o.is;
        protocol = protocol-by k o.list o.each _ refl b.0;
        address =
            member-just s 11 k o.list o.each address_name address-names.1 (TestedString is_address _)
            (tested-one s _ is_address b.1) (λ u g. tested-found is_address u g b.1);
      }

  address-stands : (k : ℕ) (t : Json) (a : Address) → At s 12 k t → AddressObject t a
      → (address_good s k ≡ true) × (address_at s k ≡ a)
  unfolding address_good address_at of_address is_place both
  address-stands k t a v o =
      let g = object-at {d = 11} (subst (At s 12 k) o.object v) in
      let e = protocol-stands (found_of s protocol_name 11 k) a.tcp o.protocol.is
      (member-finds s 11 k o.list g.1 protocol_name address-names.0 o.protocol) in
      let p = protocol-is a.tcp (string_of s (found_of s protocol_name 11 k)) e in
      let q = tested-stands is_address o.address.is
      (member-finds s 11 k o.list g.1 address_name address-names.1 o.address) in
      (rw (eq-eqb _ 123 g.0, p.0, q.0) refl, rw (p.1, q.1) refl)

  addresses-found : (ks : List ℕ) (ts : List Json) → Each (At s 12) ks ts → all_addresses s ks ≡ true
      → AddressObjects ts (addresses_at s ks)
  unfolding all_addresses addresses_at
  addresses-found [] [] no_place h = no_address
  addresses-found (k ∷ ks) (t ∷ ts) (a-place v r) h =
      let p = both-parts _ _ h in an-address (address-found k t v p.0) (addresses-found ks ts r p.1)
  addresses-found [] (t ∷ ts) x4 h = elim x4 [ ]
  addresses-found (k ∷ ks) [] x4 h = elim x4 [ ]

  addresses-stand : (ks : List ℕ) (ts : List Json) (l : List Address) → Each (At s 12) ks ts → AddressObjects ts l
      → (all_addresses s ks ≡ true) × (addresses_at s ks ≡ l)
  unfolding all_addresses addresses_at both
  addresses-stand [] [] [] no_place no_address = (refl, refl)
  addresses-stand (k ∷ ks) (t ∷ ts) (a ∷ l) (a-place v r) (an-address o more) =
      let p = address-stands k t a v o in
      let q = addresses-stand ks ts l r more in
      (rw (p.0, q.0) refl, ap₂ (λ (x : Address) (y : List Address). x ∷ y) p.1 q.1)
  addresses-stand [] [] (a ∷ l) _ x7 = elim x7 [ ]
  addresses-stand [] (t ∷ ts) l x5 _ = elim x5 [ ]
  addresses-stand (k ∷ ks) [] l x5 _ = elim x5 [ ]
  addresses-stand (k ∷ ks) (t ∷ ts) [] _ x9 = elim x9 [ ]

  -- ---- A server object.
  server-found : (k : ℕ) (t : Json) → At s 14 k t → server_good s k ≡ true → ServerObject t (spelt (server_at s k))
  unfolding server_good server_at of_server addresses_good address_places spelt
  server-found k t v h =
      let a = both-parts _ _ h in
      let b = both-parts _ _ a.1 in
      let c = both-parts _ _ b.1 in
      let e = both-parts _ _ c.1 in
      let f = both-parts _ _ e.1 in
      let i = both-parts _ _ f.1 in
      let o = object-is {d = 13} v (eqb-true _ 123 a.0) in
      record {
        list = o.list;
        object = o.is;
        name =
            member-just s 13 k o.list o.each name_name server-names.0 (TextString _)
            (text-one s _ b.0) (λ u g. text-found u g b.0);
        version =
            member-just s 13 k o.list o.each version_name server-names.1 (Integer _)
            (version-one s _ c.0) (λ u g. version-found u g c.0);
        scheme =
            member-just s 13 k o.list o.each scheme_name server-names.2 (Characters _)
            (string-one s _ e.0) (λ u g. string-found u g e.0);
        key =
            member-just s 13 k o.list o.each key_name server-names.3 (Base64 _)
            (key_one s _ f.0) (λ u g. key-found u g f.0);
        addresses =
            member-just s 13 k o.list o.each addresses_name server-names.4 (AddressList _)
            (array-one s _ i.0) (λ u g.
            let x = array-found {d = 12} u g i.0 in
            record { objects = x.list; array = x.is; each = addresses-found _ x.list x.each i.1 });
      }

  server-stands : (k : ℕ) (t : Json) (x : Server) → At s 14 k t → ServerObject t x
      → (server_good s k ≡ true) × (spelt (server_at s k) ≡ x)
  unfolding server_good server_at of_server addresses_good address_places spelt is_some is64 held both
  server-stands k t x v o =
      let g = object-at {d = 13} (subst (At s 14 k) o.object v) in
      let n = text-stands o.name.is
      (member-finds s 13 k o.list g.1 name_name server-names.0 o.name) in
      let i = version-stands o.version.is
      (member-finds s 13 k o.list g.1 version_name server-names.1 o.version) in
      let c = string-is-there o.scheme.is
      (member-finds s 13 k o.list g.1 scheme_name server-names.2 o.scheme) in
      let y = key-stands o.key.is
      (member-finds s 13 k o.list g.1 key_name server-names.3 o.key) in
      let l = array-stands {d = 12} o.addresses.is.array
      (member-finds s 13 k o.list g.1 addresses_name server-names.4 o.addresses) in
      let r = addresses-stand _ _ _ l.1 o.addresses.is.each in
      (rw (eq-eqb _ 123 g.0, n, i, c.0, y, l.0, r.0) refl, rw (n, i, c.1, y, r.1) refl)

  servers-found : (ks : List ℕ) (ts : List Json) → Each (At s 14) ks ts → all_servers s ks ≡ true
      → ServerObjects ts (spelt_all (servers_at s ks))
  unfolding all_servers servers_at spelt_all
  servers-found [] [] no_place h = no-server
  servers-found (k ∷ ks) (t ∷ ts) (a-place v r) h =
      let p = both-parts _ _ h in a-server (server-found k t v p.0) (servers-found ks ts r p.1)
  servers-found [] (t ∷ ts) x4 h = elim x4 [ ]
  servers-found (k ∷ ks) [] x4 h = elim x4 [ ]

  servers-stand : (ks : List ℕ) (ts : List Json) (l : List Server) → Each (At s 14) ks ts → ServerObjects ts l
      → (all_servers s ks ≡ true) × (spelt_all (servers_at s ks) ≡ l)
  unfolding all_servers servers_at spelt_all both
  servers-stand [] [] [] no_place no-server = (refl, refl)
  servers-stand (k ∷ ks) (t ∷ ts) (x ∷ l) (a-place v r) (a-server o more) =
      let p = server-stands k t x v o in
      let q = servers-stand ks ts l r more in
      (rw (p.0, q.0) refl, ap₂ (λ (a : Server) (b : List Server). a ∷ b) p.1 q.1)
  servers-stand [] [] (x ∷ l) _ x8 = elim x8 [ ]
  servers-stand [] (t ∷ ts) l x5 _ = elim x5 [ ]
  servers-stand (k ∷ ks) [] l x5 _ = elim x5 [ ]
  servers-stand (k ∷ ks) (t ∷ ts) [] _ x9 = elim x9 [ ]

  -- ---- URLs.
  urls-found : (ks : List ℕ) (ts : List Json) → Each (At s 14) ks ts → all_urls s ks ≡ true → Urls ts (urls_at s ks)
  unfolding all_urls urls_at is_url url_at
  urls-found [] [] no_place h = no-url
  urls-found (k ∷ ks) (t ∷ ts) (a-place v r) h =
      let p = both-parts _ _ h in a-url (tested-found is_https t (finds-one v) p.0) (urls-found ks ts r p.1)
  urls-found [] (t ∷ ts) x4 h = elim x4 [ ]
  urls-found (k ∷ ks) [] x4 h = elim x4 [ ]

  urls-stand : (ks : List ℕ) (ts : List Json) (xs : List (List ℕ)) → Each (At s 14) ks ts → Urls ts xs
      → (all_urls s ks ≡ true) × (urls_at s ks ≡ xs)
  unfolding all_urls urls_at is_url url_at both
  urls-stand [] [] [] no_place no-url = (refl, refl)
  urls-stand (k ∷ ks) (t ∷ ts) (x ∷ xs) (a-place v r) (a-url o more) =
      let p = tested-stands is_https {f = Stands k} o (finds-one v) in
      let q = urls-stand ks ts xs r more in
      (rw (p.0, q.0) refl, ap₂ (λ (a : List ℕ) (b : List (List ℕ)). a ∷ b) (ap plain p.1) q.1)
  urls-stand [] [] (x ∷ xs) _ x8 = elim x8 [ ]
  urls-stand [] (t ∷ ts) xs x5 _ = elim x5 [ ]
  urls-stand (k ∷ ks) [] xs x5 _ = elim x5 [ ]
  urls-stand (k ∷ ks) (t ∷ ts) [] _ x9 = elim x9 [ ]

  sources-found : {f : Found} {l : List Json} {ms : List Member} → Finds s 15 f l → Named sources_name ms l
      → sources_good s f ≡ true → Sources ms (urls_at s (source_places s f))
  unfolding sources_good source_places places_in array_of urls_at
  sources-found finds-none n h = no-sources n
  sources-found (finds-one {v = v} {t = t} a) n h =
      let p = both-parts _ _ h in
      let x = array-found {d = 14} t (finds-one a) p.0 in
      the-sources (record {
        value = t;
        once = n;
        is = record { strings = x.list; array = x.is; each = urls-found _ x.list x.each p.1 };
      })
  sources-found finds-more n h = never h

  nothing-found : {d : ℕ} {f : Found} → Finds s d f [] → f ≡ Nothing
  nothing-found finds-none = refl

  sources-good : {t : Json} {f : Found} → Finds s 15 f (t ∷ []) → is_there (array_of s f) ≡ true
      → all_urls s (source_places s f) ≡ true → sources_good s f ≡ true
  unfolding sources_good both
  sources-good (finds-one a) p q = rw (p, q) refl

  reports-good : {t : Json} {f : Found} → Finds s 15 f (t ∷ []) → is_url (text_by s f) ≡ true → reports_good s f ≡ true
  unfolding reports_good url_at
  reports-good (finds-one a) p = p

  a-report : {v : ℕ} {t : Json} {ms : List Member} → At s 15 v t → Named reports_name ms (t ∷ [])
      → is_url (text_by s (Stands v)) ≡ true → Reports ms (text_by s (Stands v))
  unfolding is_url
  a-report {v} {t} {ms} a n h =
      subst (Reports ms) (sym (some-octets (text_by s (Stands v)) (passes-some is_https (text_by s (Stands v)) h).0))
      (the-reports (record { value = t; once = n; is = tested-found is_https t (finds-one a) h }))

  no-report : {ms : List Member} → Named reports_name ms [] → Reports ms (text_by s Nothing)
  unfolding text_by text_in string_of
  no-report n = no-reports n

  reports-found : {f : Found} {l : List Json} {ms : List Member} → Finds s 15 f l → Named reports_name ms l
      → reports_good s f ≡ true → Reports ms (text_by s f)
  unfolding reports_good url_at
  reports-found finds-none n h = no-report n
  reports-found (finds-one a) n h = a-report a n h
  reports-found finds-more n h = never h

  -- ---- The outermost object, at k.
  module _ (k : ℕ) (ms : List Member) (each : Each (MemberAt s 15) (members_of s 15 k) ms) where
    sources-stand : {xs : List (List ℕ)} → Sources ms xs
        → (sources_good s (found_of s sources_name 15 k) ≡ true)
        × (urls_at s (source_places s (found_of s sources_name 15 k)) ≡ xs)
    unfolding sources_good source_places places_in array_of urls_at
    sources-stand (no-sources n) =
        let e = nothing-found (members-found s 15 sources_name list-names.1 k ms [] each n) in
        (rw e refl, rw e refl)
    sources-stand (the-sources j) = listed-sources j (member-finds s 15 k ms each sources_name list-names.1 j)
      where
        listed-sources : {xs : List (List ℕ)} (i : Just ms sources_name (UrlList xs))
            → Finds s 15 (found_of s sources_name 15 k) (i.value ∷ [])
            → (sources_good s (found_of s sources_name 15 k) ≡ true)
            × (urls_at s (source_places s (found_of s sources_name 15 k)) ≡ xs)
        listed-sources i g =
            let l = array-stands {d = 14} i.is.array g in
            let r = urls-stand _ _ _ l.1 i.is.each in
            (sources-good g l.0 r.0, r.1)

    reports-stand : {x : Text} → Reports ms x
        → (reports_good s (found_of s reports_name 15 k) ≡ true) × (text_by s (found_of s reports_name 15 k) ≡ x)
    unfolding reports_good is_url text_by text_in string_of
    reports-stand (no-reports n) =
        let e = nothing-found (members-found s 15 reports_name list-names.2 k ms [] each n) in
        (rw e refl, rw e refl)
    reports-stand (the-reports j) =
        let g = member-finds s 15 k ms each reports_name list-names.2 j in
        let p = tested-stands is_https j.is g in
        (reports-good g p.0, p.1)

  -- a list, by what is found of the three names
  abbrev is_list_by : Found → Found → Found → Bool
  is_list_by f g h =
      both (is_there (array_of s f)) (both (sources_good s g)
      (both (reports_good s h) (all_servers s (places_in s 14 (array_of s f)))))

  abbrev listed_by : Found → Found → Found → Listed
  listed_by f g h = record {
    servers = servers_at s (places_in s 14 (array_of s f));
    sources = urls_at s (source_places s g);
    reports = text_by s h;
  }

  tree-found : (k : ℕ) (t : Json) → At s 16 k t → eqb (get_or s k 0) 123 ≡ true
      → is_list_by (found_of s servers_name 15 k) (found_of s sources_name 15 k) (found_of s reports_name 15 k) ≡ true
      → ListTree t (spelt_list
      (listed_by (found_of s servers_name 15 k) (found_of s sources_name 15 k) (found_of s reports_name 15 k)))
  unfolding spelt_list
  tree-found k t v q h =
      let a = both-parts _ _ h in
      let b = both-parts _ _ a.1 in
      let c = both-parts _ _ b.1 in
      let o = object-is {d = 15} v (eqb-true _ 123 q) in
      let n = values_of sources_name o.list in
      let m = values_of reports_name o.list in
      record {
        list = o.list;
        object = o.is;
        servers =
            member-just s 15 k o.list o.each servers_name list-names.0 (ServerList _)
            (array-one s _ a.0) (λ u g.
            let x = array-found {d = 14} u g a.0 in
            record { objects = x.list; array = x.is; each = servers-found _ x.list x.each c.1 });
        sources =
            sources-found (members-found s 15 sources_name list-names.1 k o.list n.list o.each n.are)
            n.are b.0;
        reports =
            reports-found (members-found s 15 reports_name list-names.2 k o.list m.list o.each m.are)
            m.are c.0;
      }

  tree-stands : (k : ℕ) (t : Json) (l : Listed) → At s 16 k t → ListTree t l
      → (eqb (get_or s k 0) 123 ≡ true)
      × (is_list_by (found_of s servers_name 15 k) (found_of s sources_name 15 k) (found_of s reports_name 15 k) ≡ true)
      × (spelt_list (listed_by (found_of s servers_name 15 k) (found_of s sources_name 15 k) (found_of s reports_name 15 k))
      ≡ l)
  unfolding spelt_list both
  tree-stands k t l v o =
      let g = object-at {d = 15} (subst (At s 16 k) o.object v) in
      let x = array-stands {d = 14} o.servers.is.array
      (member-finds s 15 k o.list g.1 servers_name list-names.0 o.servers) in
      let r = servers-stand _ _ _ x.1 o.servers.is.each in
      let p = sources-stand k o.list g.1 o.sources in
      let q = reports-stand k o.list g.1 o.reports in
      (eq-eqb _ 123 g.0, rw (x.0, p.0, q.0, r.0) refl, rw (r.1, p.1, q.1) refl)

  -- ---- The text.
  abbrev outermost : ℕ
  outermost = past_while blank s 0

  root_by : (b c : Bool)
      → is_there (array_of s (of_root s servers_name (pick b (pick c (Some outermost) None) None))) ≡ true
      → (b ≡ true) × (c ≡ true)
  unfolding pick of_root array_of is_there
  root_by true true h = (refl, refl)
  root_by true false h = never h
  root_by false c h = never h

  root-of : is_list s ≡ true → (is_text s ≡ true) × (eqb (get_or s outermost 0) 123 ≡ true)
  unfolding is_list servers_member root_place
  root-of h = root_by (is_text s) (eqb (get_or s outermost 0) 123) (both-parts _ _ h).0

  root-past : is_text s ≡ true → eqb (get_or s outermost 0) 123 ≡ true → root_place s ≡ Some outermost
  unfolding root_place pick
  root-past t e = rw (t, e) refl

  abbrev is_list_at : Option ℕ → Bool
  is_list_at x = is_list_by (of_root s servers_name x) (of_root s sources_name x) (of_root s reports_name x)

  abbrev listed_at : Option ℕ → Listed
  listed_at x = listed_by (of_root s servers_name x) (of_root s sources_name x) (of_root s reports_name x)

  is-list-at : is_list s ≡ is_list_at (root_place s)
  unfolding is_list server_places servers_member sources_member reports_member
  is-list-at = refl

  listed-at : listed s ≡ listed_at (root_place s)
  unfolding listed server_places servers_member sources_member reports_member
  listed-at = refl

  root-found : (t : Json) → At s 16 outermost t → eqb (get_or s outermost 0) 123 ≡ true
      → is_list_at (Some outermost) ≡ true → ListTree t (spelt_list (listed_at (Some outermost)))
  unfolding of_root
  root-found t v q h = tree-found outermost t v q h

  list-is : is_list s ≡ true → ListText s (spelt_list (listed s))
  list-is h =
      let r = root-of h in
      let p = root-past r.0 r.1 in
      let j = (is-json s).0 r.0 in
      let e : is_list_at (Some outermost) ≡ true = ap is_list_at (sym p) ∙ sym is-list-at ∙ h in
      record {
        json = j;
        means =
            subst (λ l. ListTree (text_tree 16 s j) (spelt_list l)) (ap listed_at (sym p) ∙ sym listed-at)
            (root-found (text_tree 16 s j) (text_at 16 s j) r.1 e);
      }

  root_stands : (t : Json) (l : Listed) → At s 16 outermost t → ListTree t l
      → (eqb (get_or s outermost 0) 123 ≡ true) × (is_list_at (Some outermost) ≡ true)
      × (spelt_list (listed_at (Some outermost)) ≡ l)
  unfolding of_root
  root_stands t l v o = tree-stands outermost t l v o

  is-a-list : (l : Listed) → ListText s l → (is_list s ≡ true) × (spelt_list (listed s) ≡ l)
  is-a-list l r =
      let o = root_stands (text_tree 16 s r.json) l (text_at 16 s r.json) r.means in
      let p = root-past ((is-json s).1 r.json) o.0 in
      (is-list-at ∙ ap is_list_at p ∙ o.1, ap spelt_list (listed-at ∙ ap listed_at p) ∙ o.2)

  -- ---- What is read.
  not-this : {l : Listed} → unread ≡ this l → ⊥
  not-this e = let z : ◌≡◌ {A = ℕ} 0 1 = cc in omega arith

  list-by : (b : Bool) (l : Listed) → is_list s ≡ b → told (pick b (this (listed s)) unread) ≡ this l → ListText s l
  unfolding told pick
  list-by true l e h = let same : spelt_list (listed s) ≡ l = cc in subst (ListText s) same (list-is e)
  list-by false l e h = absurd (not-this h)

  -- the list that the reader finds is what the text says,
  pub list-found : (l : Listed) → told (list_of s) ≡ this l → ListText s l
  unfolding list_of
  list-found l h = list-by (is_list s) l refl h

  -- and a list that the text says is found
  pub list_read : (l : Listed) → ListText s l → told (list_of s) ≡ this l
  unfolding list_of told pick
  list_read l r = let p = is-a-list l r in rw p.0 (ap this p.1)

pub list-exactly : (s : List ℕ) (l : Listed) → (told (list_of s) ≡ this l) ↔ ListText s l
list-exactly s l = (list-found s l, list_read s l)

told-unread : (x : Lists) → told x ≡ unread → x ≡ unread
unfolding told
told-unread (this l) e = let z : ◌≡◌ {A = ℕ} 0 1 = cc in absurd (omega arith)
told-unread unread e = refl

unread-told : (x : Lists) → x ≡ unread → told x ≡ unread
unfolding told
unread-told x e = rw e refl

-- none is found exactly where the text is no list
pub unlisted-exactly : (s : List ℕ) → (list_of s ≡ unread) ↔ ((l : Listed) → ListText s l → ⊥)
unlisted-exactly s = (
  λ e l r. not-this s (sym (unread-told (list_of s) e) ∙ list_read s l r),
  λ f. told-unread (list_of s) (by f (told (list_of s)) refl),
)
  where
    by : ((l : Listed) → ListText s l → ⊥) → (x : Lists) → told (list_of s) ≡ x → told (list_of s) ≡ unread
    by f (this l) e = absurd (f l (list-found s l e))
    by f unread e = e

-- so a text is a list in one way at most,
pub one_list : (s : List ℕ) (k l : Listed) → ListText s k → ListText s l → k ≡ l
one_list s k l p q = let same : this k ≡ this l = sym (list_read s k p) ∙ list_read s l q in cc

-- and it is one by every derivation, or by none
pub every-derivation : (s : List ℕ) (l : Listed) → ListText s l → (j : JSON-text 16 s) → ListTree (text_tree 16 s j) l
every-derivation s l r j = subst (λ t. ListTree t l) (one-tree 16 s r.json j) r.means
