-- A server object as it is written, by 8.3's sentences: it says what was lent of the server.
use Prim.Native.Nat.{ℕ}
use mathlib.Core.Path.{◌≡◌, refl, sym, ◌∙◌, ap, subst}
use mathlib.Core.Bool.{Bool, true, false, not}
use mathlib.Core.List.{List, [], ◌∷◌, ◌++◌, append_assoc, append-nil, map}
use native.Mathlib.Omega.{arith}
use lib.Dec.{eqb, leb, ltb}
use lib.ListN.{length, take, drop}
use borrow.Author.Tests.{leb-true, ltb-true, eqb-false, not-true}
use Rattle.laws.specs.Ascii.{ascii}
use Rattle.laws.specs.Flat.{flat}
use Rattle.laws.specs.Pick.{pick, either, both}
use Rattle.laws.specs.Same.{same}
use Rattle.laws.proofs.Same.{same_true}
use Rattle.json_strings.specs.Text.{same_list}
use Rattle.json_strings.proofs.Plain.{Each}
use Rattle.json_strings.proofs.Plain.{none as no_char, one as a-char}
use Rattle.json_quote.specs.Quoted.{quoted}
use Rattle.base64_strict.specs.Encode.{encode64}
use Rattle.base64_strict.proofs.Codec.{decode-encode}
use Rattle.report_write.proofs.Letters.{each-encode}
use Rattle.json_laws.specs.Abnf
use Rattle.json_laws.specs.Tree.{Json, Member, members, elements, paired, Named, no_member, this-one, another}
use Rattle.json_laws.proofs.Spans.{both-parts}
use Rattle.json_laws.proofs.Paired.{narrow, is_same, same-is, word-exactly, decode-paired}
use Rattle.list_address.specs.Address.{is_address}
use Rattle.list_read.specs.Server.{Address, name_name, version_name, scheme_name, key_name, addresses_name}
use Rattle.list_read.specs.Server.{protocol_name, address_name}
use Rattle.list_write.specs.declared.Item.TheVariants.{Address as AddressItem}
use Rattle.list_write.specs.Decimal.{decimal}
use Rattle.list_write.specs.Lines.{lines_of, line_text, is_protocol, is_address_line, is_item, item_good, all_good}
use Rattle.list_write.specs.Given.{Given, good_server}
use Rattle.list_write.specs.Lent.{all_servers}
use Rattle.list_write.specs.Texts.{row, address_text, item_text, element_text, items_text, head_text, key_text, server_text}
use Rattle.list_laws.specs.Listing.{Just, TextString, TestedString, protocol_of}
use Rattle.list_laws.specs.Listing.{AddressObject, AddressObjects, no_address, an-address}
use Rattle.list_laws.specs.Listing.{ServerObject, ServerObjects, no-server, a-server}
use Rattle.list_laws.specs.Written.{address_given, server_given, Lendable, AllLendable}
use Rattle.list_laws.specs.Written as written
use Rattle.list_laws.proofs.Low.{address-low, low-utf8}
use Rattle.list_laws.proofs.Decimals.{decimal-number, decimal-unmarked}
use Rattle.list_laws.proofs.Derived.{Value, Word, Quotes, quotes, plain_word, word_value, number-value, named, pair}
use Rattle.list_laws.proofs.Derived.{no-pair, and-pair, object-value, Says, Every, no_more, one_more}
use Rattle.list_laws.proofs.Derived.{Trees, no-tree, a-tree, Row, row-value}

-- ---- Words.
abbrev plainly : ℕ → Bool
plainly c = both (leb 32 c) (both (ltb c 128) (both (not (eqb c 34)) (not (eqb c 92))))

abbrev all_plainly : List ℕ → Bool
all_plainly [] = true
all_plainly (c ∷ l) = both (plainly c) (all_plainly l)

each_of : (l : List ℕ) → all_plainly l ≡ true → Each l
each_of [] e = no_char
each_of (c ∷ l) e =
    let p = both-parts _ _ e in
    let q = both-parts _ _ p.0 in
    let r = both-parts _ _ q.1 in
    let s = both-parts _ _ r.1 in
    a-char (record {
      low = leb-true 32 c q.0;
      high = ltb-true c 128 r.0;
      quote = eqb-false c 34 (not-true _ s.0);
      slash = eqb-false c 92 (not-true _ s.1);
    }) (each_of l p.1)

-- a word between quotes
abbrev pub in_quotes : List ℕ → List ℕ
in_quotes l = 34 ∷ (l ++ 34 ∷ [])

pub word : (l : List ℕ) → all_plainly l ≡ true → narrow l ≡ true → Word (in_quotes l) l
word l e n = subst (Word (in_quotes l)) ((word-exactly l l n).1 refl) (plain_word l (each_of l e))

-- ---- Members by their names.
abbrev pub of_name : List ℕ → List Member → List Json
of_name w [] = []
of_name w (m ∷ ms) = pick (same_list m.name w) (m.value ∷ of_name w ms) (of_name w ms)

pub named-is : (w : List ℕ) (ms : List Member) → Named w ms (of_name w ms)
unfolding pick
named-is w [] = no_member
named-is w (m ∷ ms) = by (same_list m.name w) refl (named-is w ms)
  where
    by : (t : Bool) → same_list m.name w ≡ t → Named w ms (of_name w ms)
        → Named w (m ∷ ms) (pick t (m.value ∷ of_name w ms) (of_name w ms))
    by true e r = this-one (is_same m.name w e) r
    by false e r =
        another (λ (f : m.name ≡ w). let z : ◌≡◌ {A = ℕ} 0 1 = cc (sym (same-is w) ∙ ap (λ l. same_list l w) (sym f) ∙ e) in omega arith) r

pub just : {P : Json → Type 0} (w : List ℕ) (ms : List Member) (t : Json) → of_name w ms ≡ t ∷ [] → P t → Just ms w P
just w ms t e p = record { value = t; once = subst (Named w ms) e (named-is w ms); is = p }

-- ---- Strings.
text_of : {x : List ℕ} (q : Quotes x) → TextString x (Json.string q.characters)
text_of q = record { characters = q.characters; string = refl; utf8 = q.utf8 }

pub tested : (test : List ℕ → Bool) {x : List ℕ} (q : Quotes x) → leb (length x) 2048 ≡ true → test x ≡ true
    → TestedString test x (Json.string q.characters)
tested test q l h = record { text = text_of q; short = leb-true _ _ l; holds = h }

-- ---- An address.
module _ (q r : List ℕ) where
  address_is : 123 ∷ (((in_quotes protocol_name ++ 58 ∷ in_quotes q) ++ 44 ∷ ((in_quotes address_name ++ 58 ∷ r) ++ []))
      ++ 125 ∷ [])
      ≡ flat (ascii "{\"protocol\":\"" ∷ q ∷ ascii "\",\"address\":" ∷ r ∷ ascii "}" ∷ [])
  unfolding flat
  address_is = simp (append_assoc, append-nil)

take-three : (t : List ℕ) → take 3 (take 4 t) ≡ take 3 t
take-three [] = refl
take-three (a ∷ []) = refl
take-three (a ∷ b ∷ []) = refl
take-three (a ∷ b ∷ c ∷ []) = refl
take-three (a ∷ b ∷ c ∷ d ∷ t) = refl

-- the protocol of a line: its first three letters
protocol-word : (t : List ℕ) → is_protocol (take 4 t) ≡ true
    → Word (in_quotes (take 3 t)) (protocol_of (same (take 4 t) (ascii "tcp ")))
unfolding is_protocol both either
protocol-word t h = by (same (take 4 t) (ascii "tcp ")) refl h
  where
    tcp : Word (in_quotes (ascii "tcp")) (ascii "tcp")
    tcp = word (ascii "tcp") refl refl

    udp : Word (in_quotes (ascii "udp")) (ascii "udp")
    udp = word (ascii "udp") refl refl

    first : (p : Bool) → either p false ≡ true → p ≡ true
    first true e = refl
    first false e = e

    by : (b : Bool) → same (take 4 t) (ascii "tcp ") ≡ b → either (same (take 4 t) (ascii "udp ")) b ≡ true
        → Word (in_quotes (take 3 t)) (protocol_of b)
    by true e g =
        let z : take 3 t ≡ ascii "tcp" = sym (take-three t) ∙ ap (take 3) (same_true _ _ e) in rw z tcp
    by false e g =
        let z : take 3 t ≡ ascii "udp" = sym (take-three t) ∙ ap (take 3) (same_true _ _ (first _ g)) in rw z udp

module _ (t : List ℕ) (h : is_address_line t ≡ true) (q : Quotes (drop 4 t)) where
  abbrev address_members : List Member
  address_members =
      named protocol_name (Json.string (protocol_of (same (take 4 t) (ascii "tcp "))))
      ∷ named address_name (Json.string q.characters) ∷ []

  address-value : is_protocol (take 4 t) ≡ true → Value 12 (address_text t) (Json.object (members address_members))
  unfolding address_text both
  address-value p =
      subst (λ x. Value 12 x (Json.object (members address_members))) (address_is (take 3 t) (quoted (drop 4 t)))
      (object-value {d = 11} (pair (word protocol_name refl refl) (word_value 11 (protocol-word t p)))
      (and-pair (pair (word address_name refl refl) (word_value 11 q.word)) (no-pair 11)))

  address-says : (a : Address) → a.tcp ≡ same (take 4 t) (ascii "tcp ") → a.address ≡ drop 4 t
      → Says 12 (address_text t) (λ u. AddressObject u a)
  unfolding is_address_line same_list both pick
  address-says a e f =
      let p = both-parts _ _ h in
      let r = both-parts _ _ p.1 in
      record {
        tree = Json.object (members address_members);
        value = address-value p.0;
        is =
            record {
              list = address_members;
              object = refl;
              protocol = just protocol_name address_members _ refl (ap (λ b. Json.string (protocol_of b)) (sym e));
              address = just address_name address_members _ refl
                  (subst (λ x. TestedString is_address x (Json.string q.characters)) (sym f)
                  (tested is_address q r.0 r.1));
            };
      }

is_address_lem : (t : List ℕ) → is_address_line t ≡ true → is_address (drop 4 t) ≡ true
unfolding is_address_line
is_address_lem t h = (both-parts _ _ (both-parts _ _ h).1).1

-- its line
abbrev SaysAddress : List ℕ → Type 0
SaysAddress l = Says 12 (element_text AddressItem l) (λ u. AddressObject u (address_given l))

line-says : (l : List ℕ) → item_good AddressItem l ≡ true → SaysAddress l
unfolding item_good is_item element_text item_text address_given
line-says l h =
    let i = (both-parts _ _ h).1 in
    address-says (line_text l) i (quotes (drop 4 (line_text l)) (low-utf8 _ (address-low _ (is_address_lem (line_text l) i))))
    (address_given l) refl refl

lines-say : (ls : List (List ℕ)) → all_good AddressItem ls ≡ true → Every SaysAddress ls
unfolding all_good
lines-say [] h = no_more
lines-say (l ∷ ls) h = let p = both-parts _ _ h in one_more (line-says l p.0) (lines-say ls p.1)

address-objects : {ls : List (List ℕ)} {ts : List Json} → Trees (λ l u. AddressObject u (address_given l)) ls ts
    → AddressObjects ts (map address_given ls)
address-objects no-tree = no_address
address-objects (a-tree p r) = an-address p (address-objects r)

-- ---- A server.
abbrev after_name : List ℕ → List ℕ
after_name l = ascii ",\"version\":" ++ l

abbrev after_version : List ℕ → List ℕ
after_version l = ascii ",\"publicKeyType\":\"ed25519\",\"publicKey\":\"" ++ l

abbrev after_key : List ℕ → List ℕ
after_key l = ascii "\",\"addresses\":[" ++ l

module _ (q v k r : List ℕ) where
  abbrev addresses_pair : List ℕ
  addresses_pair = 44 ∷ ((in_quotes addresses_name ++ 58 ∷ 91 ∷ r) ++ [])

  abbrev from_scheme : List ℕ
  from_scheme =
      44 ∷ ((in_quotes scheme_name ++ 58 ∷ in_quotes (ascii "ed25519"))
      ++ 44 ∷ ((in_quotes key_name ++ 58 ∷ in_quotes k) ++ addresses_pair))

  abbrev from_version : List ℕ
  from_version = 44 ∷ ((in_quotes version_name ++ 58 ∷ v) ++ from_scheme)

  abbrev in_row : List ℕ
  in_row = ascii "{\"name\":" ++ (q ++ after_name (v ++ after_version (k ++ after_key (r ++ 125 ∷ []))))

  members-row : 123 ∷ (((in_quotes name_name ++ 58 ∷ q) ++ from_version) ++ 125 ∷ []) ≡ in_row
  members-row =
      ap (λ l. ascii "{\"name\":" ++ l) (append_assoc q from_version (125 ∷ [])
      ∙ ap (λ l. q ++ after_name l) (append_assoc v from_scheme (125 ∷ [])
      ∙ ap (λ l. v ++ after_version l) (append_assoc (k ++ 34 ∷ []) addresses_pair (125 ∷ [])
      ∙ append_assoc k (34 ∷ []) (addresses_pair ++ 125 ∷ [])
      ∙ ap (λ l. k ++ after_key (l ++ 125 ∷ [])) (append-nil r))))

  texts-row :
      flat (flat (ascii "{\"name\":" ∷ q ∷ ascii ",\"version\":" ∷ v ∷ [])
      ∷ flat (ascii ",\"publicKeyType\":\"ed25519\",\"publicKey\":\"" ∷ k ∷ ascii "\",\"addresses\":[" ∷ [])
      ∷ r ∷ ascii "}" ∷ [])
      ≡ in_row
  unfolding flat
  texts-row =
      ap (λ l. ascii "{\"name\":" ++ l)
      (append_assoc q (after_name (v ++ [])) (after_version ((k ++ after_key []) ++ (r ++ 125 ∷ [])))
      ∙ ap (λ l. q ++ after_name l) (append_assoc v [] (after_version ((k ++ after_key []) ++ (r ++ 125 ∷ [])))
      ∙ ap (λ l. v ++ after_version l) (append_assoc k (after_key []) (r ++ 125 ∷ []))))

module _ (g : Given) (low : Lendable g) (n : Quotes g.name)
    (a : Row (element_text AddressItem) 12 (λ l u. AddressObject u (address_given l)) (lines_of g.addresses)) where
  abbrev server_members : List Member
  server_members =
      named name_name (Json.string n.characters) ∷ named version_name (Json.number (decimal g.version))
      ∷ named scheme_name (Json.string (ascii "ed25519"))
      ∷ named key_name (Json.string (paired (encode64 g.key)))
      ∷ named addresses_name (Json.array (elements a.trees)) ∷ []

  abbrev row_text : List ℕ
  row_text = row (element_text AddressItem) true (lines_of g.addresses)

  server-value : Value 14 (server_text g) (Json.object (members server_members))
  unfolding server_text head_text key_text items_text both
  server-value =
      subst (λ x. Value 14 x (Json.object (members server_members)))
      (members-row (quoted g.name) (decimal g.version) (encode64 g.key) row_text
      ∙ sym (texts-row (quoted g.name) (decimal g.version) (encode64 g.key) row_text))
      (object-value {d = 13} (pair (word name_name refl refl) (word_value 13 n.word))
      (and-pair (pair (word version_name refl refl)
      (number-value 13 (decimal-number g.version (omega (arith, low.version)))))
      (and-pair (pair (word scheme_name refl refl) (word_value 13 (word (ascii "ed25519") refl refl)))
      (and-pair (pair (word key_name refl refl)
      (word_value 13 (plain_word (encode64 g.key) (each-encode g.key low.key))))
      (and-pair (pair (word addresses_name refl refl) a.value) (no-pair 13))))))

  server-object : ServerObject (Json.object (members server_members)) (server_given g)
  unfolding server_given same_list both pick
  server-object = record {
    list = server_members;
    object = refl;
    name = just name_name server_members _ refl (text_of n);
    version =
        just version_name server_members _ refl (record { number = refl; whole = decimal-unmarked g.version });
    scheme = just scheme_name server_members _ refl refl;
    key =
        just key_name server_members _ refl (record {
          characters = paired (encode64 g.key);
          string = refl;
          base64 = decode-paired (encode64 g.key) ∙ decode-encode g.key low.key;
        });
    addresses =
        just addresses_name server_members _ refl
        (record { objects = a.trees; array = refl; each = address-objects a.each });
  }

abbrev pub SaysServer : Given → Type 0
SaysServer g = Says 14 (server_text g) (λ u. ServerObject u (server_given g))

server-says : (g : Given) → Lendable g → good_server g.name g.addresses ≡ true → SaysServer g
unfolding good_server
server-says g low h =
    let p = both-parts _ _ h in
    let n = quotes g.name p.0 in
    let a = row-value (element_text AddressItem) 12 (λ l u. AddressObject u (address_given l)) (lines_of g.addresses)
    (lines-say (lines_of g.addresses) p.1) in
    record {
      tree = Json.object (members (server_members g low n a));
      value = server-value g low n a;
      is = server-object g low n a;
    }

pub servers-say : (gs : List Given) → AllLendable gs → all_servers gs ≡ true → Every SaysServer gs
unfolding all_servers
servers-say [] written.no-server h = no_more
servers-say (g ∷ gs) (written.a-server low r) h =
    let p = both-parts _ _ h in one_more (server-says g low p.0) (servers-say gs r p.1)

pub server-objects : {gs : List Given} {ts : List Json} → Trees (λ g u. ServerObject u (server_given g)) gs ts
    → ServerObjects ts (map server_given gs)
server-objects no-tree = no-server
server-objects (a-tree p r) = a-server p (server-objects r)
