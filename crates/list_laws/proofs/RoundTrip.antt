-- A list that is written says what was lent: the reader finds just that in it.
use Prim.Native.Nat.{ℕ}
use mathlib.Core.Path.{◌≡◌, refl, sym, ◌∙◌, ap, ap₂, subst}
use mathlib.Core.Bool.{true, false}
use mathlib.Core.List.{List, [], ◌∷◌, ◌++◌, append_assoc, append-nil, map}
use native.Mathlib.Omega.{arith}
use lib.Dec.{eqb}
use lib.ListN.{length}
use borrow.Author.Tests.{ne_eqb}
use Rattle.laws.specs.Ascii.{ascii}
use Rattle.laws.specs.Flat.{flat}
use Rattle.laws.specs.Pick.{pick, either, both}
use Rattle.json_strings.specs.Text.{same_list}
use Rattle.json_text.specs.Octets.{Text, octets, none}
use Rattle.json_quote.specs.Quoted.{quoted}
use Rattle.json_laws.specs.Rules.{join}
use Rattle.json_laws.specs.Rules.{none as nothing}
use Rattle.json_laws.specs.Abnf
use Rattle.json_laws.specs.Tree.{Json, Member, members, elements, paired, text_tree}
use Rattle.json_laws.proofs.Spans.{both-parts}
use Rattle.json_laws.proofs.Paired.{word-exactly}
use Rattle.list_address.specs.Https.{is_https}
use Rattle.list_read.specs.Server.{Address, Server}
use Rattle.list_read.specs.Listed.{Listed, Lists, this, unread, list_of, servers_name, sources_name, reports_name}
use Rattle.list_write.specs.declared.Item.TheVariants.{Source}
use Rattle.list_write.specs.Decimal.{decimal}
use Rattle.list_write.specs.Lines.{lines_of, line_text, is_url, is_item, item_good, all_good}
use Rattle.list_write.specs.Given.{Given, good_reports}
use Rattle.list_write.specs.Lent.{all_servers}
use Rattle.list_write.specs.Texts.{row, item_text, element_text, items_text, server_text}
use Rattle.list_write.specs.Texts.{servers_text, sources_text, reports_text, list_text}
use Rattle.list_laws.specs.Listing.{Just}
use Rattle.list_laws.specs.Listing.{ServerObject, ServerObjects, ServerList, Urls, no-url, a-url}
use Rattle.list_laws.specs.Listing.{UrlList, Url, Sources, no-sources, the-sources, Reports, no-reports, the-reports}
use Rattle.list_laws.specs.Listing.{ListTree, ListText, spelt, spelt_all, spelt_list, told}
use Rattle.list_laws.specs.Written.{address_given, server_given, list_given, AllLendable}
use Rattle.list_laws.specs.Written as written
use Rattle.list_laws.proofs.Listed.{list_read}
use Rattle.list_laws.proofs.Low.{https-low, low-utf8}
use Rattle.list_laws.proofs.Derived.{Value, Word, Quotes, quotes, word_value, named, pair}
use Rattle.list_laws.proofs.Derived.{PairsOn, no-pair, and-pair, object-value, Says, says-as, Every, no_more, one_more}
use Rattle.list_laws.proofs.Derived.{Trees, no-tree, a-tree, row-value}
use Rattle.list_laws.proofs.Servers.{in_quotes, word, named-is, just, tested, servers-say, server-objects}

-- ---- URLs.
url-quotes : (t : List ℕ) → is_url t ≡ true → Quotes t
unfolding is_url
url-quotes t h = quotes t (low-utf8 t (https-low t (both-parts _ _ h).1))

url-is : (t : List ℕ) (h : is_url t ≡ true) → Url t (Json.string (url-quotes t h).characters)
unfolding is_url
url-is t h = let p = both-parts _ _ h in tested is_https (url-quotes t h) p.0 p.1

abbrev SaysUrl : List ℕ → Type 0
SaysUrl l = Says 14 (element_text Source l) (λ u. Url (line_text l) u)

source-says : (l : List ℕ) → item_good Source l ≡ true → SaysUrl l
unfolding item_good is_item element_text item_text
source-says l h =
    let i = (both-parts _ _ h).1 in
    record {
      tree = Json.string (url-quotes (line_text l) i).characters;
      value = word_value 14 (url-quotes (line_text l) i).word;
      is = url-is (line_text l) i;
    }

sources-say : (ls : List (List ℕ)) → all_good Source ls ≡ true → Every SaysUrl ls
unfolding all_good
sources-say [] h = no_more
sources-say (l ∷ ls) h = let p = both-parts _ _ h in one_more (source-says l p.0) (sources-say ls p.1)

the-urls : {ls : List (List ℕ)} {ts : List Json} → Trees (λ l u. Url (line_text l) u) ls ts
    → Urls ts (map line_text ls)
the-urls no-tree = no-url
the-urls (a-tree p r) = a-url p (the-urls r)

-- ---- The two members that may be left out: there is none, of which N says what that means, or one.
data Lent (w : List ℕ) (N : Type 0) (P : Json → Type 0) : List ℕ → Type 0 where
  left_out : N → Lent w N P []
  put_in : {x : List ℕ} {t : Json} → Value 15 x t → P t → Lent w N P (44 ∷ (in_quotes w ++ 58 ∷ x))

abbrev as_member : {w : List ℕ} {N : Type 0} {P : Json → Type 0} {x : List ℕ} → Lent w N P x → List Member
as_member (left_out n) = []
as_member {w} (put_in {t = t} v p) = named w t ∷ []

on-pairs : {w : List ℕ} {N : Type 0} {P : Json → Type 0} {x z : List ℕ} {l : List Member} → Word (in_quotes w) w
    → (m : Lent w N P x) → PairsOn 15 z l → PairsOn 15 (x ++ z) (as_member m ++ l)
on-pairs q (left_out n) r = r
on-pairs q (put_in v p) r = and-pair (pair q v) r

abbrev LentSources : List (List ℕ) → List ℕ → Type 0
LentSources xs x = Lent sources_name (xs ≡ []) (UrlList xs) x

module _ (b : ℕ) (s : List ℕ) where
  not-empty : eqb (length (b ∷ s)) 0 ≡ false
  not-empty = ne_eqb (length (b ∷ s)) 0 (λ e. omega arith)

  sources-text : sources_text (b ∷ s) ≡ ascii ",\"sources\":[" ++ (row (element_text Source) true (lines_of (b ∷ s)) ++ [])
  unfolding sources_text items_text pick flat
  sources-text = rw not-empty refl

  reports-text : reports_text (b ∷ s) ≡ ascii ",\"reports\":" ++ (quoted (b ∷ s) ++ [])
  unfolding reports_text pick flat
  reports-text = rw not-empty refl

  reports-given : pick (eqb (length (b ∷ s)) 0) none (octets (b ∷ s)) ≡ octets (b ∷ s)
  unfolding pick
  reports-given = rw not-empty refl

  good-url : good_reports (b ∷ s) ≡ true → is_url (b ∷ s) ≡ true
  unfolding good_reports either
  good-url h = rw not-empty at h

sources-lent : (s : List ℕ) → all_good Source (lines_of s) ≡ true → LentSources (map line_text (lines_of s)) (sources_text s)
unfolding sources_text pick lines_of
sources-lent [] h = left_out refl
sources-lent (b ∷ s) h =
    let r = row-value (element_text Source) 14 (λ l u. Url (line_text l) u) (lines_of (b ∷ s))
    (sources-say (lines_of (b ∷ s)) h) in
    subst (LentSources (map line_text (lines_of (b ∷ s))))
    (ap (λ l. ascii ",\"sources\":[" ++ l) (sym (append-nil (row (element_text Source) true (lines_of (b ∷ s)))))
    ∙ sym (sources-text b s))
    (put_in r.value (record { strings = r.trees; array = refl; each = the-urls r.each }))

record ReportsUrl (y : Text) (t : Json) : Type 0 where
  x : List ℕ
  is : y ≡ octets x
  url : Url x t

abbrev LentReports : Text → List ℕ → Type 0
LentReports y x = Lent reports_name (y ≡ none) (ReportsUrl y) x

reports-lent : (u : List ℕ) → good_reports u ≡ true
    → LentReports (pick (eqb (length u) 0) none (octets u)) (reports_text u)
unfolding reports_text pick
reports-lent [] h = left_out refl
reports-lent (b ∷ u) h =
    let g = good-url b u h in
    subst (LentReports (pick (eqb (length (b ∷ u)) 0) none (octets (b ∷ u))))
    (ap (λ l. ascii ",\"reports\":" ++ l) (sym (append-nil (quoted (b ∷ u)))) ∙ sym (reports-text b u))
    (put_in (word_value 15 (url-quotes (b ∷ u) g).word)
    (record { x = b ∷ u; is = reports-given b u; url = url-is (b ∷ u) g }))

-- ---- The list.
module _ (r s u : List ℕ) where
  list-is : 123 ∷ (((in_quotes servers_name ++ 58 ∷ 91 ∷ r) ++ (s ++ (u ++ []))) ++ 125 ∷ [])
      ≡ flat (ascii "{\"servers\":[" ∷ r ∷ s ∷ u ∷ ascii "}" ∷ [])
  unfolding flat
  list-is =
      ap (λ l. ascii "{\"servers\":[" ++ l)
      (ap (λ z. (r ++ (s ++ z)) ++ 125 ∷ []) (append-nil u) ∙ append_assoc r (s ++ u) (125 ∷ [])
      ∙ ap (λ z. r ++ z) (append_assoc s u (125 ∷ [])))

module _ (ts : List Json) where
  abbrev servers : Member
  servers = named servers_name (Json.array (elements ts))

  module _ {xs : List (List ℕ)} {y : Text} where
    abbrev list_members : {s u : List ℕ} → LentSources xs s → LentReports y u → List Member
    list_members a b = servers ∷ (as_member a ++ (as_member b ++ []))

    list-servers : {s u : List ℕ} (vs : List Server) → ServerObjects ts vs → (a : LentSources xs s) (b : LentReports y u)
        → Just (list_members a b) servers_name (ServerList vs)
    unfolding same_list both pick
    list-servers vs e a b = by a b (record { objects = ts; array = refl; each = e })
      where
        by : {s u : List ℕ} (a : LentSources xs s) (b : LentReports y u) → ServerList vs (Json.array (elements ts))
            → Just (list_members a b) servers_name (ServerList vs)
        by (left_out n) (left_out m) l = just servers_name (list_members (left_out n) (left_out m)) _ refl l
        by (put_in v p) (left_out m) l = just servers_name (list_members (put_in v p) (left_out m)) _ refl l
        by (left_out n) (put_in w q) l = just servers_name (list_members (left_out n) (put_in w q)) _ refl l
        by (put_in v p) (put_in w q) l = just servers_name (list_members (put_in v p) (put_in w q)) _ refl l

    list-sources : {s u : List ℕ} (a : LentSources xs s) (b : LentReports y u) → Sources (list_members a b) xs
    unfolding same_list both pick
    list-sources (left_out n) (left_out m) =
        subst (Sources _) (sym n) (no-sources (named-is sources_name (list_members (left_out n) (left_out m))))
    list-sources (left_out n) (put_in w q) =
        subst (Sources _) (sym n) (no-sources (named-is sources_name (list_members (left_out n) (put_in w q))))
    list-sources (put_in v p) (left_out m) =
        the-sources (just sources_name (list_members (put_in v p) (left_out m)) _ refl p)
    list-sources (put_in v p) (put_in w q) =
        the-sources (just sources_name (list_members (put_in v p) (put_in w q)) _ refl p)

    list-reports : {s u : List ℕ} (a : LentSources xs s) (b : LentReports y u) → Reports (list_members a b) y
    unfolding same_list both pick
    list-reports (left_out n) (left_out m) =
        subst (Reports _) (sym m) (no-reports (named-is reports_name (list_members (left_out n) (left_out m))))
    list-reports (put_in v p) (left_out m) =
        subst (Reports _) (sym m) (no-reports (named-is reports_name (list_members (put_in v p) (left_out m))))
    list-reports (left_out n) (put_in w q) =
        subst (Reports _) (sym q.is)
        (the-reports (just reports_name (list_members (left_out n) (put_in w q)) _ refl q.url))
    list-reports (put_in v p) (put_in w q) =
        subst (Reports _) (sym q.is)
        (the-reports (just reports_name (list_members (put_in v p) (put_in w q)) _ refl q.url))

-- a value that is a list is a text that is one
text_says : {x : List ℕ} {l : Listed} → Says 16 x (λ t. ListTree t l) → ListText x l
unfolding Abnf.JSON-text Abnf.ws text_tree
text_says {x} {l} s =
    subst (λ z. ListText z l) (append-nil x) (record {
      json = join {x = []} nothing (join s.value.derived nothing);
      means = subst (λ t. ListTree t l) (sym s.value.means) s.is;
    })

module _ (gs : List Given) (sources reports : List ℕ) (low : AllLendable gs) (good : all_servers gs ≡ true)
    (lines : all_good Source (lines_of sources) ≡ true) (url : good_reports reports ≡ true) where
  list-says : Says 16 (list_text gs sources reports) (λ t. ListTree t (list_given gs sources reports))
  unfolding list_text servers_text list_given both
  list-says =
      let r = row-value server_text 14 (λ g u. ServerObject u (server_given g)) gs (servers-say gs low good) in
      let a = sources-lent sources lines in
      let b = reports-lent reports url in
      says-as (list-is (row server_text true gs) (sources_text sources) (reports_text reports)) (record {
        tree = Json.object (members (list_members r.trees a b));
        value =
            object-value {d = 15} (pair (word servers_name refl refl) r.value)
            (on-pairs (word sources_name refl refl) a (on-pairs (word reports_name refl refl) b (no-pair 15)));
        is =
            record {
              list = list_members r.trees a b;
              object = refl;
              servers = list-servers r.trees (map server_given gs) (server-objects r.each) a b;
              sources = list-sources r.trees a b;
              reports = list-reports r.trees a b;
            };
      })

  -- by 8.3's sentences the text is a list that says what was lent,
  pub written-list : ListText (list_text gs sources reports) (list_given gs sources reports)
  written-list = text_says list-says

abbrev server : List ℕ → List ℕ → List ℕ → List ℕ → List Address → Server
server n i s k l = record { name = n; version = i; scheme = s; key = k; addresses = l }

server-eta : (v w : Server) → v.name ≡ w.name → v.version ≡ w.version → v.scheme ≡ w.scheme → v.key ≡ w.key
    → v.addresses ≡ w.addresses → v ≡ w
server-eta v w a b c d e =
    ap (λ x. server x v.version v.scheme v.key v.addresses) a
    ∙ ap (λ x. server w.name x v.scheme v.key v.addresses) b
    ∙ ap (λ x. server w.name w.version x v.key v.addresses) c
    ∙ ap₂ (λ x y. server w.name w.version w.scheme x y) d e

-- ---- What is read: the types of the keys are "ed25519", in which nothing is paired.
spelt-one : (v : Server) (g : Given) → spelt v ≡ server_given g → v ≡ server_given g
unfolding spelt server_given both
spelt-one v g e =
    let s : paired v.scheme ≡ ascii "ed25519" = ap (λ (w : Server). w.scheme) e in
    let z = (word-exactly v.scheme (ascii "ed25519") refl).0 s in
    let n : v.name ≡ g.name = ap (λ (w : Server). w.name) e in
    let i : v.version ≡ decimal g.version = ap (λ (w : Server). w.version) e in
    let k : v.key ≡ g.key = ap (λ (w : Server). w.key) e in
    let a : v.addresses ≡ map address_given (lines_of g.addresses) = ap (λ (w : Server). w.addresses) e in
    server-eta v (server_given g) n i z k a

spelt-all : (vs : List Server) (gs : List Given) → spelt_all vs ≡ map server_given gs → vs ≡ map server_given gs
unfolding spelt_all
spelt-all [] [] e = refl
spelt-all [] (g ∷ gs) e = let z : ◌≡◌ {A = ℕ} 0 1 = cc in absurd (omega arith)
spelt-all (v ∷ vs) [] e = let z : ◌≡◌ {A = ℕ} 0 1 = cc in absurd (omega arith)
spelt-all (v ∷ vs) (g ∷ gs) e =
    let h : spelt v ≡ server_given g = cc in
    let t : spelt_all vs ≡ map server_given gs = cc in
    ap₂ (λ (a : Server) (b : List Server). a ∷ b) (spelt-one v g h) (spelt-all vs gs t)

abbrev list : List Server → List (List ℕ) → Text → Listed
list vs xs y = record { servers = vs; sources = xs; reports = y }

listed-eta : (k l : Listed) → k.servers ≡ l.servers → k.sources ≡ l.sources → k.reports ≡ l.reports → k ≡ l
listed-eta k l a b c =
    ap (λ x. list x k.sources k.reports) a ∙ ap₂ (λ x y. list l.servers x y) b c

module _ (gs : List Given) (sources reports : List ℕ) where
  spelt-list : (k : Listed) → spelt_list k ≡ list_given gs sources reports → k ≡ list_given gs sources reports
  unfolding spelt_list list_given
  spelt-list k e =
      listed-eta k (list_given gs sources reports) (spelt-all k.servers gs (ap (λ (l : Listed). l.servers) e))
      (ap (λ (l : Listed). l.sources) e) (ap (λ (l : Listed). l.reports) e)

  told-list : (x : Lists) → told x ≡ this (list_given gs sources reports) → x ≡ this (list_given gs sources reports)
  unfolding told
  told-list (this k) e =
      let z : spelt_list k ≡ list_given gs sources reports = cc in ap this (spelt-list k z)
  told-list unread e = let z : ◌≡◌ {A = ℕ} 0 1 = cc in absurd (omega arith)

  -- and the reader finds just that
  pub round_trip : AllLendable gs → all_servers gs ≡ true → all_good Source (lines_of sources) ≡ true
      → good_reports reports ≡ true
      → list_of (list_text gs sources reports) ≡ this (list_given gs sources reports)
  round_trip low good lines url =
      told-list (list_of (list_text gs sources reports))
      (list_read (list_text gs sources reports) (list_given gs sources reports)
      (written-list gs sources reports low good lines url))
