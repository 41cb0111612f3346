-- Laws for the writer of records, and for the returns of the reader.
use Rattle.std.specs.Prelude.{Err, None, Ok, Option, Some}
use Prim.Native.Nat.{ℕ, ◌+◌, ◌*◌, ◌≤◌, ◌<◌}
use mathlib.Core.Path.{◌≡◌, refl, sym, ◌∙◌, ap}
use mathlib.Core.Bool.{Bool, true, false}
use mathlib.Core.List.{List, [], ◌∷◌, ◌++◌, append-nil}
use native.Mathlib.Omega.{arith}
use native.Mathlib.Numerals.{add-one}
use lib.Dec.{eqb, ltb}
use lib.ListN.{length, get_or, take, drop, length-append, drop_of_length-le}
use lib.Seq.{drop-cons, get_or-take, length-take-le}
use borrow.Author.Tests.{eqb-true, ne_eqb, lt-ltb, le-ltb, ltb-true, ltb-false}
use Rattle.laws.specs.Pick.{pick, both}
use Rattle.laws.specs.Pasted.{pasted, fronted}
use Rattle.laws.specs.Written.{written}
use Rattle.laws.proofs.Pasted.{pasted-two}
use Rattle.laws.proofs.Filled.{Filled, filled-first, filled_next, filled-fit, filled-last, filled-length}
use Rattle.refusal.specs.Refusal.{refusal}
use Rattle.hash.specs.Hashes.{srv_of}
use Rattle.hash.proofs.Lengths.{length-srv}
use Rattle.json_strings.specs.Text.{content_at}
use Rattle.json_values.specs.declared.Found.{Found}
use Rattle.json_values.specs.Members.{found_of}
use Rattle.base64_strict.specs.Decode.{decode64}
use Rattle.json_base64.specs.Sized.{plain}
use Rattle.json_tokens.proofs.Picks.{inside}
use Rattle.report_read.specs.Entry.{string_of, held}
use Rattle.report_read.proofs.Elements.{both_left, both_right}
use Rattle.laws.proofs.Written.{written-refused}
use Rattle.refusal.specs.declared.Refusal.{Refusal}
use Rattle.list_read.specs.declared.Survey.{Survey}
use Rattle.list_read.specs.Server.{Server, in_server, key_name, key_by, of_server, askable, server_good, server_at}
use Rattle.list_read.specs.Listed.{all_servers, servers_at, server_places, is_list, listed, this, unread, list_of}
use Rattle.list_read.specs.Listed.{sources_member, reports_member}
use Rattle.list_read.specs.Read.{askables, record_of, records_of, any_crowded, size_code, servers_of, list_code}
use Rattle.list_read.specs.Read.{answer_of, read_of, record_bytes}
use Rattle.list_read.specs.Facts.{ask_places, can_ask, all_ask, records_at, Known, Surveys}
use Rattle.list_read.proofs.Tallying.{asks-few}
use Rattle.list_read.proofs.Surveying.{length-servers}

-- ---- A server that can be asked: its key has 32 bytes.
module _ (s : List ℕ) (k : ℕ) (e : can_ask s k ≡ true) where
  pub ask-inside : k < length s
  unfolding can_ask
  ask-inside = ltb-true k (length s) (both_left _ _ e)

  pub ask-key : length (server_at s k).key ≡ 32
  unfolding can_ask askable
  ask-key = eqb-true _ 32 (both_right _ _ (both_right _ _ (both_right (ltb k (length s)) _ e)))

  module _ {f : Found} (i : f ≡ found_of s key_name in_server k) {x : Option ℕ} (j : x ≡ string_of s f) where
    key-is : {p : ℕ} → x ≡ Some p → plain (decode64 (content_at s p)) ≡ (server_at s k).key
    unfolding server_at of_server key_by held
    key-is h = rw (sym i) (rw (sym j ∙ h) refl)

    no_key : x ≡ None → (server_at s k).key ≡ []
    unfolding server_at of_server key_by held
    no_key h = rw (sym i) (rw (sym j ∙ h) refl)

    pub key-none : (l : List ℕ) → x ≡ None → l ≡ (server_at s k).key
    key-none l h = absurd (omega (arith, ask-key, ap length (no_key h)))

    pub key_fits : {p : ℕ} → x ≡ Some p → length (plain (decode64 (content_at s p))) ≤ 32
    key_fits h = omega (arith, ask-key, ap length (key-is h))

    pub key-done : {p : ℕ} {l : List ℕ} (o : List ℕ) → x ≡ Some p → length o ≡ 32
        → l ≡ fronted (plain (decode64 (content_at s p))) o → l ≡ (server_at s k).key
    key-done {p} {l} o h z g =
        g ∙ rw (key-is h) (rw (drop_of_length-le o {i = length (server_at s k).key} (omega (arith, ask-key))) (append-nil (server_at s k).key))

  -- its record
  pub record-length : length (record_of (server_at s k)) ≡ 64
  unfolding record_of
  record-length =
      length-append (server_at s k).key (srv_of (server_at s k).key)
      ∙ omega (arith, ask-key, length-srv (server_at s k).key)

  pub record-put : {key srv m t : List ℕ} (o : List ℕ) (at : ℕ) → key ≡ (server_at s k).key → srv ≡ srv_of key
      → m ≡ pasted o at key → t ≡ pasted m (at + 32) srv → at + 64 ≤ length o
      → t ≡ pasted o at (record_of (server_at s k))
  unfolding record_of
  record-put {key} {srv} o at ek es f g h =
      let l : length key ≡ 32 = ap length ek ∙ ask-key in
      let n : length srv ≡ 32 = ap length es ∙ length-srv key in
      pasted-two o key srv at (at + 32) f g (omega arith) (omega arith)
      ∙ ap (pasted o at) (rw es (rw ek refl))

-- ---- The records of the servers at the places l, of which the first i are written.
pub record Laying (s l was : List ℕ) (i : ℕ) (out : List ℕ) : Type 0 where
  pub filled : Filled (records_at s l) (records_at s (drop i l)) was (i * 64) out
  pub asks : all_ask s (drop i l) ≡ true

records-length : (s L : List ℕ) → all_ask s L ≡ true → length (records_at s L) ≡ length L * 64
unfolding all_ask records_at
records-length s [] a = refl
records-length s (k ∷ ks) a =
    length-append (record_of (server_at s k)) (records_at s ks)
    ∙ omega (arith, record-length s k (both_left _ _ a), records-length s ks (both_right _ _ a))

pub laying-first : (s l out : List ℕ) → all_ask s l ≡ true → length l * 64 ≤ length out → Laying s l out 0 out
laying-first s l out a r =
    record { filled = filled-first (records_at s l) out (omega (arith, records-length s l a)); asks = a }

module _ {s l was out : List ℕ} {i : ℕ} (y : Laying s l was i out) where
  pub laying-done : length l ≤ i → out ≡ fronted (records_at s l) was
  unfolding records_at
  laying-done h = filled-last (rw (drop_of_length-le l {i = i} h) at y.filled)

  pub laying-length : length out ≡ length was
  laying-length = filled-length y.filled

  module _ (h : i < length l) where
    here : drop i l ≡ get_or l i 0 ∷ drop (i + 1) l
    here = drop-cons l i 0 h ∙ rw (add-one i) refl

    pub laying-asks : can_ask s (get_or l i 0) ≡ true
    unfolding all_ask
    laying-asks = both_left _ _ (rw here at y.asks)

    part : records_at s (drop i l) ≡ record_of (server_at s (get_or l i 0)) ++ records_at s (drop (i + 1) l)
    unfolding records_at
    part = rw here refl

    pub laying-fit : i * 64 + 64 ≤ length out
    laying-fit =
        omega (
          arith,
          record-length s (get_or l i 0) laying-asks,
          filled-fit (record_of (server_at s (get_or l i 0))) _ y.filled part,
        )

    pub laying-on : {to : List ℕ} → to ≡ pasted out (i * 64) (record_of (server_at s (get_or l i 0)))
        → Laying s l was (i + 1) to
    unfolding all_ask
    laying-on {to} w =
        let f = filled_next (record_of (server_at s (get_or l i 0))) (records_at s (drop (i + 1) l)) y.filled part w in
        let q : i * 64 + length (record_of (server_at s (get_or l i 0))) ≡ (i + 1) * 64 =
        omega (arith, record-length s (get_or l i 0) laying-asks) in
        record { filled = rw q at f; asks = both_right _ _ (rw here at y.asks) }

-- ---- The servers that can be asked.
asked-same : (s ks : List ℕ) → askables (servers_at s ks) ≡ servers_at s (ask_places s ks)
unfolding askables servers_at ask_places pick
asked-same s [] = refl
asked-same s (k ∷ ks) = by (askable (server_at s k)) (asked-same s ks)
  where
    by : (b : Bool) → askables (servers_at s ks) ≡ servers_at s (ask_places s ks)
        → pick b (server_at s k ∷ askables (servers_at s ks)) (askables (servers_at s ks))
        ≡ servers_at s (pick b (k ∷ ask_places s ks) (ask_places s ks))
    by true h = ap (λ (l : List Server). server_at s k ∷ l) h
    by false h = h

records-same : (s ks : List ℕ) → records_at s ks ≡ records_of (servers_at s ks)
unfolding records_at records_of servers_at
records-same s [] = refl
records-same s (k ∷ ks) = ap (λ (l : List ℕ). record_of (server_at s k) ++ l) (records-same s ks)

good-inside : (s : List ℕ) (k : ℕ) → server_good s k ≡ true → ltb k (length s) ≡ true
unfolding server_good
good-inside s k e = lt-ltb k (length s) (inside {k = get_or s k 0} s refl (eqb-true _ 123 (both_left _ _ e)) tt)

-- each of the places that are kept lies in the text, and its server can be asked
pub places-ask : (s ks : List ℕ) → all_servers s ks ≡ true → all_ask s (ask_places s ks) ≡ true
unfolding all_servers ask_places all_ask can_ask pick both
places-ask s [] e = refl
places-ask s (k ∷ ks) e =
    by (askable (server_at s k)) refl (good-inside s k (both_left _ _ e)) (places-ask s ks (both_right (server_good s k) _ e))
  where
    by : (b : Bool) → askable (server_at s k) ≡ b → ltb k (length s) ≡ true → all_ask s (ask_places s ks) ≡ true
        → all_ask s (pick b (k ∷ ask_places s ks) (ask_places s ks)) ≡ true
    by true a i h = rw (i, a) h
    by false a i h = h

-- ---- What code 0 says.
list-pick : (s : List ℕ) (b : Bool) → list_code (pick b (this (listed s)) unread) ≡ 0
    → (b ≡ true) × (size_code (servers_at s (server_places s)) ≡ 0)
unfolding pick list_code listed
list-pick s true e = (refl, e)
list-pick s false e = absurd (omega arith)

pub listed-good : (s : List ℕ) → list_code (list_of s) ≡ 0
    → (is_list s ≡ true) × (size_code (servers_at s (server_places s)) ≡ 0)
unfolding list_of
listed-good s e = list-pick s (is_list s) e

pub list-servers : (s : List ℕ) → is_list s ≡ true → all_servers s (server_places s) ≡ true
unfolding is_list
list-servers s e = both_right _ _ (both_right _ _ (both_right _ _ e))

size_few : (vs : List Server) → size_code vs ≡ 0 → length vs ≤ 64
unfolding size_code pick
size_few vs e = by (eqb (length vs) 0) (ltb 64 (length vs)) refl e
  where
    by : (b d : Bool) → ltb 64 (length vs) ≡ d → ◌≡◌ {A = ℕ} (pick b 25 (pick d 25 (pick (any_crowded vs) 25 0))) 0
        → length vs ≤ 64
    by true d i h = absurd (omega arith)
    by false true i h = absurd (omega arith)
    by false false i h = ltb-false 64 (length vs) i

-- ---- The reader's returns.
module _ (s out : List ℕ) where
  pub read-code : {why : Refusal} → Surveys s (Err why)
      → (Err why ≡ read_of (list_of s) (length out)) × (out ≡ written why.code (record_bytes (list_of s)) out)
  unfolding read_of pick
  read-code e =
      let m : eqb (list_code (list_of s)) 0 ≡ false = ne_eqb _ 0 e.1 in
      rw e.0 (rw m refl, written-refused (list_code (list_of s)) (record_bytes (list_of s)) out e.1)

  module _ {y : Survey} (e : Surveys s (Ok y)) where
    zero-code : list_code (list_of s) ≡ 0
    zero-code = e.0

    known : Known s (server_places s) (sources_member s) (reports_member s) y
    known = e.1

    is-good : is_list s ≡ true
    is-good = (listed-good s zero-code).0

    servers-are : servers_of (list_of s) ≡ servers_at s (server_places s)
    unfolding list_of servers_of listed pick
    servers-are = rw is-good refl

    asked-are : length (askables (servers_at s (server_places s))) ≡ y.asked
    asked-are =
        ap length (asked-same s (server_places s)) ∙ length-servers s (ask_places s (server_places s)) ∙ sym known.asked

    pub read-few : y.asked ≤ 64
    read-few =
        omega (
          arith,
          known.asked,
          asks-few s (server_places s),
          length-servers s (server_places s),
          size_few (servers_at s (server_places s)) (listed-good s zero-code).1,
        )

    pub read-asks : all_ask s (take y.asked y.places) ≡ true
    read-asks = rw known.places (places-ask s (server_places s) (list-servers s is-good))

    pub read_short : length out < y.asked * 64
        → (Err (refusal 19) ≡ read_of (list_of s) (length out)) × (out ≡ written 19 (record_bytes (list_of s)) out)
    unfolding read_of answer_of pick
    read_short h =
        (rw zero-code (rw servers-are (rw asked-are (rw (lt-ltb (length out) (y.asked * 64) h) refl))), refl)

    pub read_done : {to : List ℕ} → y.asked * 64 ≤ length out
        → to ≡ fronted (records_at s (take y.asked y.places)) out
        → (Ok (y.asked, y.passed) ≡ read_of (list_of s) (length out))
        × (to ≡ written 0 (record_bytes (list_of s)) out)
    unfolding read_of answer_of record_bytes pick
    read_done {to} h g =
        let b : records_at s (take y.asked y.places) ≡ records_of (askables (servers_of (list_of s))) =
        ap (records_at s) known.places ∙ records-same s (ask_places s (server_places s))
        ∙ ap records_of (sym (asked-same s (server_places s)) ∙ ap askables (sym servers-are)) in (
          rw zero-code (rw servers-are (rw asked-are (rw (le-ltb (length out) (y.asked * 64) h)
              (ap (λ n. Ok (y.asked, n)) known.passed)))),
          g ∙ ap (λ (l : List ℕ). fronted l out) b,
        )
