-- The round trip: what is written is read again. `entries_of (json_of es)` are es.
use Rattle.std.specs.Prelude.{Option, Some}
use Prim.Native.Nat.{ℕ, suc, ◌+◌}
use mathlib.Core.Path.{◌≡◌, refl, sym, ◌∙◌, ap}
use mathlib.Core.Bool.{Bool, true, false}
use mathlib.Core.List.{List, [], ◌∷◌, ◌++◌, append-nil}
use native.Mathlib.Omega.{arith}
use native.Mathlib.Nat.{add-zero}
use borrow.Author.Tests.{eq-eqb}
use lib.ListN.{length, drop, replicate, length-drop}
use lib.Seq.{drop-drop, drop-append_seam}
use Rattle.laws.specs.Pick.{pick, either, both}
use Rattle.json_tokens.specs.declared.Step.TheVariants.{End}
use Rattle.json_values.specs.declared.Found.TheVariants.{At}
use Rattle.json_tokens.specs.Scan.{then, then_step, blank, past_while, after}
use Rattle.json_tokens.specs.Walk.{walked}
use Rattle.json_strings.specs.Text.{same_list}
use Rattle.json_values.specs.Value.{value_at, array_at, object_at, array_of, object_of, item_step, member_step, ends_at, is_text}
use Rattle.json_values.specs.Members.{members_of, named, place_of, value_place, answer_of, count_of, tally, found_of}
use Rattle.json_tokens.proofs.Turns.{walked_more, walked_end, starts-end}
use Rattle.json_values.proofs.Ahead.{forth-items, forth-members, value-is}
use Rattle.json_tokens.proofs.Stands.{Stands, stands_at_lem, no-blank}
use Rattle.json_strings.proofs.Plain.{Each, string-reads, string-content}
use Rattle.json_values.proofs.Stands.{value-string}
use Rattle.json_tokens.proofs.Stands.{colon-reads, close-reads, comma-reads}
use Rattle.json_values.proofs.Stands.{member-reads}
use Rattle.json_values.proofs.Written.{Member, members_text, Clean, last, more, tally_text, find-written}
use Rattle.base64_strict.specs.Encode.{encode64}
use Rattle.base64_strict.specs.Decode.{bytes, decode64}
use Rattle.laws.specs.Bytes.{Bytes}
use Rattle.base64_strict.proofs.Codec.{decode-encode}
use Rattle.report_read.specs.Entry.{Entry, rand_name, key_name, request_name, response_name, responses_name, string_of, text_place}
use Rattle.report_read.specs.Entry.{member_of, is64, is32, held, rand_good, has_all, entry_at, elements_of, all_of, entries_at}
use Rattle.report_read.specs.Entry.{list_of, list_place, these, entries_from, entries_of}
use Rattle.report_read.specs.Ready.{from}
use Rattle.report_read.proofs.Elements.{elements-from, from_more, from_end}
use Rattle.report_write.specs.Text.{rest_text, entry_text, entries_text, json_of}
use Rattle.report_write.proofs.Letters.{each-encode, rand-each, key-each, request-each, response-each, responses-each}

-- ---- Texts up to the end of s: from k on, s is x.
record Ends (s : List ℕ) (k : ℕ) (x : List ℕ) : Type 0 where
  is : drop k s ≡ x

module _ {s : List ℕ} {k : ℕ} where
  stands : {x : List ℕ} → Ends s k x → Stands s k x
  stands {x} h = record { rest = []; text = h.is ∙ sym (append-nil x) }

  next : {a : ℕ} {x : List ℕ} → Ends s k (a ∷ x) → Ends s (k + 1) x
  next h = record { is = sym (drop-drop 1 k s) ∙ ap (drop 1) h.is }

  past : (x y : List ℕ) → Ends s k (x ++ y) → Ends s (k + length x) y
  past x y h = record { is = sym (drop-drop (length x) k s) ∙ ap (drop (length x)) h.is ∙ drop-append_seam x y }

  again-as : {x y : List ℕ} → Ends s k x → x ≡ y → Ends s k y
  again-as h e = record { is = h.is ∙ e }

-- what a reader read is followed by the text t
record Passes (s t : List ℕ) (r : Option ℕ) : Type 0 where
  end : ℕ
  is : r ≡ Some end
  ends : Ends s end t

-- ---- A member whose value is a string.
module _ {s : List ℕ} {k : ℕ} (name x t : List ℕ) (h : Ends s k (34 ∷ (name ++ 34 ∷ 58 ∷ 34 ∷ (x ++ 34 ∷ t)))) where
  value-place : Ends s (k + length name + 3) (34 ∷ (x ++ 34 ∷ t))
  value-place =
      let e : k + 1 + length name + 1 + 1 ≡ k + length name + 3 = omega arith in
      rw e at (next (next (past name (34 ∷ 58 ∷ 34 ∷ (x ++ 34 ∷ t)) (next h))))

  member-ends : Ends s (k + length name + length x + 5) t
  member-ends =
      let e : k + length name + 3 + 1 + length x + 1 ≡ k + length name + length x + 5 = omega arith in
      rw e at (next (past x (34 ∷ t) (next value-place)))

  member-turn : (d : ℕ) → Each name → Each x
      → member_step s (value_at s d) k ≡ after s 125 (k + length name + length x + 5)
  unfolding either
  member-turn d a b =
      let e : k + length name + 3 + length x + 2 ≡ k + length name + length x + 5 = omega arith in
      member-reads (value_at s d) name 34 (x ++ 34 ∷ t) a (stands h) refl (value-string d x t b (stands value-place)
      ∙ ap Some e)

member-next : {s : List ℕ} {k : ℕ} (name x t : List ℕ) → Ends s k (34 ∷ (name ++ 34 ∷ 58 ∷ 34 ∷ (x ++ 34 ∷ 44 ∷ t)))
    → Ends s (k + length name + length x + 6) t
member-next {s} {k} name x t h =
    let e : k + length name + length x + 5 + 1 ≡ k + length name + length x + 6 = omega arith in
    rw e at (next (member-ends name x (44 ∷ t) h))

-- ---- An object of such members.
inner : Member → List Member → List ℕ → List ℕ
inner m [] t = m.name ++ 34 ∷ 58 ∷ 34 ∷ (m.value ++ 34 ∷ 125 ∷ t)
inner m (n ∷ ms) t = m.name ++ 34 ∷ 58 ∷ 34 ∷ (m.value ++ 34 ∷ 44 ∷ members_text n ms t)

opens : (m : Member) (ms : List Member) (t : List ℕ) → members_text m ms t ≡ 34 ∷ inner m ms t
unfolding inner
opens m [] t = refl
opens m (n ∷ ms) t = refl

walk-written : {s : List ℕ} {k : ℕ} (d : ℕ) (m : Member) (ms : List Member) (t : List ℕ) → Clean m ms
    → Ends s k (members_text m ms t) → Passes s t (walked (length s) (member_step s (value_at s d)) k)
unfolding either
walk-written {s = s} {k = k} d m [] t (last a b) h =
    let g = member-ends m.name m.value (125 ∷ t) h in
    record {
      end = k + length m.name + length m.value + 5 + 1;
      is = sym
          (walked_end (length s) (member_step s (value_at s d)) k refl
          (member-turn m.name m.value (125 ∷ t) h d a b ∙ close-reads (stands g) refl));
      ends = next g;
    }
walk-written {s = s} {k = k} d m (n ∷ ms) t (more a b c) h =
    let g = member-ends m.name m.value (44 ∷ members_text n ms t) h in
    let r = walk-written {k = k + length m.name + length m.value + 5 + 1} d n ms t c (next g) in
    record {
      end = r.end;
      is = sym (walked_more (length s) (member_step s (value_at s d)) (forth-members s d) k refl
          (member-turn m.name m.value (44 ∷ members_text n ms t) h d a b
          ∙ comma-reads 125 (stands (again-as g (ap (λ l. 44 ∷ l) (opens n ms t)))) refl (λ z. omega arith))) ∙ r.is;
      ends = r.ends;
    }

object-value : {s : List ℕ} {k : ℕ} (d : ℕ) (x : List ℕ) → Ends s k (123 ∷ 34 ∷ x)
    → value_at s (suc d) k ≡ walked (length s) (member_step s (value_at s d)) (k + 1)
unfolding object_at object_of pick either
object-value {s} {k} d x h =
    value-is s (suc d) k
    ∙ rw (stands_at_lem (stands h)) (rw (no-blank (stands (next h)) refl) (rw (stands_at_lem (stands (next h))) refl))

array-value : {s : List ℕ} {k : ℕ} (d : ℕ) (x : List ℕ) → Ends s k (91 ∷ 123 ∷ x)
    → value_at s (suc d) k ≡ walked (length s) (item_step s (value_at s d)) (k + 1)
unfolding array_at array_of pick either
array-value {s} {k} d x h =
    value-is s (suc d) k
    ∙ rw (stands_at_lem (stands h)) (rw (no-blank (stands (next h)) refl) (rw (stands_at_lem (stands (next h))) refl))

object-passes : {s : List ℕ} {k : ℕ} (d : ℕ) (m : Member) (ms : List Member) (t : List ℕ) → Clean m ms
    → Ends s k (123 ∷ members_text m ms t) → Passes s t (value_at s (suc d) k)
object-passes {s} {k} d m ms t c h =
    let r = walk-written d m ms t c (next h) in
    record {
      end = r.end;
      is = object-value d (inner m ms t) (again-as h (ap (λ l. 123 ∷ l) (opens m ms t)))
          ∙ r.is;
      ends = r.ends;
    }

members-found : {s : List ℕ} {k : ℕ} (d : ℕ) (w : List ℕ) (m : Member) (ms : List Member) (t : List ℕ) → Clean m ms
    → Ends s k (123 ∷ members_text m ms t) → found_of s w d k ≡ tally_text w 0 0 (k + 1) m ms
unfolding found_of members_of pick either
members-found {s} {k} d w m ms t c h =
    let g = stands (again-as (next h) (opens m ms t)) in
    rw (no-blank g refl) (rw (stands_at_lem g) (find-written d w 0 0 (k + 1) m ms t c (stands (next h))))

-- ---- The members of an entry.
member-value : {s : List ℕ} {v : ℕ} (k : ℕ) (w x t : List ℕ) → Bytes x → found_of s w 13 k ≡ At v
    → Ends s v (34 ∷ (encode64 x ++ 34 ∷ t)) → member_of s k w ≡ bytes x
unfolding member_of text_place string_of pick
member-value {s} {v} k w x t b f h =
    rw f (rw (stands_at_lem (stands h)) (ap decode64 (string-content (encode64 x) t (each-encode x b) (stands (next h)))
    ∙ decode-encode x b))

-- an entry that a report has: the first one's rand is zero
pub record Whole (first : Bool) (e : Entry) : Type 0 where
  pub rand : Bytes e.rand
  pub rand32 : length e.rand ≡ 32
  pub zero-first : first ≡ true → e.rand ≡ replicate 32 0
  pub key : Bytes e.key
  pub key32 : length e.key ≡ 32
  pub request : Bytes e.request
  pub response : Bytes e.response

abbrev of : List ℕ → List ℕ → Member
of w x = record { name = w; value = encode64 x }

abbrev last_two : Entry → List Member
last_two e = of request_name e.request ∷ of response_name e.response ∷ []

module _ {first : Bool} {e : Entry} (w : Whole first e) where
  clean-rest : Clean (of key_name e.key) (last_two e)
  clean-rest =
      more key-each (each-encode e.key w.key)
      (more request-each (each-encode e.request w.request)
      (last response-each (each-encode e.response w.response)))

  clean_all : Clean (of rand_name e.rand) (of key_name e.key ∷ last_two e)
  clean_all = more rand-each (each-encode e.rand w.rand) clean-rest

-- the three members that every entry has, where the first of them starts at j
record Held (s : List ℕ) (k : ℕ) (e : Entry) : Type 0 where
  key : member_of s k key_name ≡ bytes e.key
  request : member_of s k request_name ≡ bytes e.request
  response : member_of s k response_name ≡ bytes e.response

rest-held : {s : List ℕ} (k : ℕ) {first : Bool} (e : Entry) (j : ℕ) (t : List ℕ) → Whole first e
    → Ends s j (rest_text e t)
    → found_of s key_name 13 k ≡ At (j + length key_name + 3)
    → found_of s request_name 13 k ≡ At (j + length key_name + length (encode64 e.key) + 6 + length request_name + 3)
    → found_of s response_name 13 k ≡ At
    (j + length key_name + length (encode64 e.key) + 6 + length request_name + length
    (encode64 e.request) + 6 + length response_name + 3)
    → Held s k e
rest-held {s} k e j t w h f g i =
    let u = member-next key_name (encode64 e.key) _ h in
    let v = member-next request_name (encode64 e.request) _ u in
    record {
      key = member-value k key_name e.key _ w.key f (value-place key_name (encode64 e.key) _ h);
      request =
          member-value k request_name e.request _ w.request g
          (value-place request_name (encode64 e.request) _ u);
      response =
          member-value k response_name e.response _ w.response i
          (value-place response_name (encode64 e.response) _ v);
    }

first-held : {s : List ℕ} {k : ℕ} (e : Entry) (t : List ℕ) → Whole true e → Ends s k (entry_text true e t) → Held s k e
unfolding same_list both count_of answer_of pick
first-held {s} {k} e t w h =
    rest-held k e (k + 1) t w (next h)
    (members-found 13 key_name (of key_name e.key) (last_two e) t (clean-rest w) h)
    (members-found 13 request_name (of key_name e.key) (last_two e) t (clean-rest w) h)
    (members-found 13 response_name (of key_name e.key) (last_two e) t (clean-rest w) h)

later-held : {s : List ℕ} {k : ℕ} (e : Entry) (t : List ℕ) → Whole false e → Ends s k (entry_text false e t) → Held s k e
unfolding same_list both count_of answer_of pick
later-held {s} {k} e t w h =
    rest-held k e (k + 1 + length rand_name + length (encode64 e.rand) + 6) t w
    (member-next rand_name (encode64 e.rand) (rest_text e t) (next h))
    (members-found 13 key_name (of rand_name e.rand) (of key_name e.key ∷ last_two e) t (clean_all w) h)
    (members-found 13 request_name (of rand_name e.rand) (of key_name e.key ∷ last_two e) t (clean_all w) h)
    (members-found 13 response_name (of rand_name e.rand) (of key_name e.key ∷ last_two e) t (clean_all w) h)

later-rand : {s : List ℕ} {k : ℕ} (e : Entry) (t : List ℕ) → Whole false e → Ends s k (entry_text false e t)
    → member_of s k rand_name ≡ bytes e.rand
unfolding same_list both count_of answer_of pick
later-rand {s} {k} e t w h =
    member-value k rand_name e.rand (44 ∷ rest_text e t) w.rand
    (members-found 13 rand_name (of rand_name e.rand) (of key_name e.key ∷ last_two e) t (clean_all w) h)
    (value-place rand_name (encode64 e.rand) (44 ∷ rest_text e t) (next h))

-- ---- An entry is read as it was.
record Reading (s : List ℕ) (first : Bool) (k : ℕ) (e : Entry) (t : List ℕ) : Type 0 where
  has : has_all s first k ≡ true
  are : entry_at s first k ≡ e
  passes : Passes s t (value_at s 14 k)

reading-first : {s : List ℕ} {k : ℕ} (e : Entry) (t : List ℕ) → Whole true e → Ends s k (entry_text true e t)
    → Reading s true k e t
unfolding has_all both rand_good either is32 is64 entry_at held pick
reading-first {s} {k} e t w h =
    let r = first-held e t w h in
    record {
      has = rw (stands_at_lem (stands h)) (rw (r.key, r.request, r.response) (rw w.key32 refl));
      are = rw (
        r.key,
        r.request,
        r.response,
      )
          (ap (λ l. record { rand = l; key = e.key; request = e.request; response = e.response })
          (sym (w.zero-first refl)));
      passes = object-passes 13 (of key_name e.key) (last_two e) t (clean-rest w) h;
    }

reading-later : {s : List ℕ} {k : ℕ} (e : Entry) (t : List ℕ) → Whole false e → Ends s k (entry_text false e t)
    → Reading s false k e t
unfolding has_all both rand_good either is32 is64 entry_at held pick
reading-later {s} {k} e t w h =
    let r = later-held e t w h in
    let q = later-rand e t w h in
    record {
      has = rw (stands_at_lem (stands h)) (rw (r.key, r.request, r.response, q) (rw (w.key32, w.rand32) refl));
      are = rw (r.key, r.request, r.response, q) refl;
      passes = object-passes 13 (of rand_name e.rand) (of key_name e.key ∷ last_two e) t (clean_all w) h;
    }

reading : {s : List ℕ} {k : ℕ} (first : Bool) (e : Entry) (t : List ℕ) → Whole first e
    → Ends s k (entry_text first e t) → Reading s first k e t
reading true e t w h = reading-first e t w h
reading false e t w h = reading-later e t w h

-- ---- The list.
pub data Fine : Bool → Entry → List Entry → Type 0 where
  one_entry : {first : Bool} {e : Entry} → Whole first e → Fine first e []
  entry-then : {first : Bool} {e f : Entry} {es : List Entry} → Whole first e → Fine false f es → Fine first e (f ∷ es)

record Listed (s : List ℕ) (first : Bool) (k : ℕ) (es : List Entry) (t : List ℕ) : Type 0 where
  all : all_of s first (from s k) ≡ true
  are : entries_at s first (from s k) ≡ es
  passes : Passes s t (walked (length s) (item_step s (value_at s 14)) k)

-- what stands after the opening brace
abbrev later_tail : Entry → List ℕ → List ℕ
later_tail e t = 34 ∷ (rand_name ++ 34 ∷ 58 ∷ 34 ∷ (encode64 e.rand ++ 34 ∷ 44 ∷ rest_text e t))

tail : Entry → List Entry → List ℕ → List ℕ
tail e [] t = later_tail e (93 ∷ t)
tail e (f ∷ es) t = later_tail e (44 ∷ entries_text false f es t)

opened : (e : Entry) (es : List Entry) (t : List ℕ) → entries_text false e es t ≡ 123 ∷ tail e es t
unfolding tail entries_text
opened e [] t = refl
opened e (f ∷ es) t = refl

first_tail : Entry → List Entry → List ℕ → List ℕ
first_tail e [] t = rest_text e (93 ∷ t)
first_tail e (f ∷ es) t = rest_text e (44 ∷ entries_text false f es t)

opened-first : (e : Entry) (es : List Entry) (t : List ℕ) → entries_text true e es t ≡ 123 ∷ first_tail e es t
unfolding first_tail entries_text
opened-first e [] t = refl
opened-first e (f ∷ es) t = refl

item-turn : {s t : List ℕ} (k : ℕ) (p : Passes s t (value_at s 14 k)) → item_step s (value_at s 14) k ≡ after s 93 p.end
unfolding item_step then_step
item-turn k p = rw p.is refl

listed : {s : List ℕ} {k : ℕ} (first : Bool) (e : Entry) (es : List Entry) (t : List ℕ) → Fine first e es
    → Ends s k (entries_text first e es t) → Listed s first k (e ∷ es) t
unfolding entries_text all_of entries_at both either
listed {s = s} {k = k} first e [] t (one_entry w) h =
    let r = reading first e (93 ∷ t) w h in
    let p = r.passes in
    let z = item-turn k p ∙ close-reads (stands p.ends) refl in
    let l = from_end s k refl z in
    record {
      all = rw (l, r.has) refl;
      are = rw (l, r.are) refl;
      passes =
          record {
            end = p.end + 1;
            is = sym (walked_end (length s) (item_step s (value_at s 14)) k refl z);
            ends = next
                p.ends;
          };
    }
listed {s = s} {k = k} first e (f ∷ es) t (entry-then w v) h =
    let r = reading first e (44 ∷ entries_text false f es t) w h in
    let p = r.passes in
    let z = item-turn k p
    ∙ comma-reads 93 (stands (again-as p.ends (ap (λ l. 44 ∷ l) (opened f es t)))) refl (λ q. omega arith) in
    let l = from_more s k refl z in
    let i = listed {k = p.end + 1} false f es t v (next p.ends) in
    record {
      all = rw (l, r.has) i.all;
      are = rw (l, r.are) (ap (λ q. e ∷ q) i.are);
      passes =
          record {
            end = i.passes.end;
            is = sym
                (walked_more (length s) (item_step s (value_at s 14)) (forth-items s 14) k refl z)
                ∙ i.passes.is;
            ends = i.passes.ends;
          };
    }

-- ---- The whole text.
abbrev body_text : Entry → List Entry → List ℕ
body_text e es = 91 ∷ entries_text true e es (125 ∷ [])

abbrev whole_text : Entry → List Entry → List ℕ
whole_text e es = 123 ∷ 34 ∷ (responses_name ++ 34 ∷ 58 ∷ body_text e es)

at-end : (s : List ℕ) (k : ℕ) → Ends s k [] → past_while blank s k ≡ k
unfolding past_while
at-end s k h = rw h.is (add-zero k)

module _ (e : Entry) (es : List Entry) (w : Fine true e es) where
  list : Listed (whole_text e es) true 14 (e ∷ es) (125 ∷ [])
  list = listed true e es (125 ∷ []) w (record { is = refl })

  array : value_at (whole_text e es) 15 13 ≡ Some list.passes.end
  array =
      array-value {k = 13} 14 (first_tail e es (125 ∷ []))
      (record { is = ap (λ l. 91 ∷ l) (opened-first e es (125 ∷ [])) }) ∙ list.passes.is

  turn : member_step (whole_text e es) (value_at (whole_text e es) 15) 1 ≡ End (list.passes.end + 1)
  unfolding either
  turn =
      member-reads {k = 1} (value_at (whole_text e es) 15) responses_name 91
      (entries_text true e es (125 ∷ [])) responses-each (stands {k = 1} (record { is = refl })) refl array
      ∙ close-reads (stands list.passes.ends) refl

  root : value_at (whole_text e es) 16 0 ≡ Some (list.passes.end + 1)
  root =
      object-value {k = 0} 15 (responses_name ++ 34 ∷ 58 ∷ body_text e es) (record { is = refl })
      ∙ sym (walked_end (length (whole_text e es))
      (member_step (whole_text e es) (value_at (whole_text e es) 15)) 1 refl turn)

  size : list.passes.end + 1 ≡ length (whole_text e es)
  size = omega (arith, length-drop list.passes.end (whole_text e es), ap length list.passes.ends.is)

  no-blank-0 : past_while blank (whole_text e es) 0 ≡ 0
  unfolding either
  no-blank-0 = no-blank {k = 0} {a = 123} (stands {k = 0} (record { is = refl })) refl

  no-blank-1 : past_while blank (whole_text e es) 1 ≡ 1
  unfolding either
  no-blank-1 = no-blank {k = 1} {a = 34} (stands {k = 1} (record { is = refl })) refl

  is-text : is_text (whole_text e es) ≡ true
  unfolding is_text ends_at
  is-text =
      rw no-blank-0 (rw root (eq-eqb _ _ (at-end (whole_text e es) (list.passes.end + 1) (next list.passes.ends)
      ∙ size)))

  named-one : named (whole_text e es) responses_name 1 ≡ true
  unfolding named pick same_list both
  named-one =
      ap (λ l. same_list l responses_name)
      (string-content {k = 2} responses_name (58 ∷ body_text e es) responses-each (stands {k = 2} (record { is = refl })))

  place-one : value_place (whole_text e es) 1 ≡ 13
  unfolding value_place place_of then either
  place-one =
      rw (string-reads {k = 1} responses_name (58 ∷ body_text e es) responses-each
      (stands {k = 1} (record { is = refl })))
      (rw (colon-reads {k = 12} {a = 91} (stands {k = 12} (record { is = refl })) refl) refl)

  found : found_of (whole_text e es) responses_name 15 0 ≡ At 13
  unfolding found_of members_of tally count_of answer_of pick
  found =
      rw no-blank-1
      (rw (starts-end (length (whole_text e es)) (member_step (whole_text e es) (value_at (whole_text e es) 15)) 1 refl turn)
      (rw (named-one, place-one) refl))

  place : list_place (whole_text e es) ≡ Some 13
  unfolding list_place list_of pick
  place = rw (is-text, no-blank-0) (rw found refl)

  elements : elements_of (whole_text e es) 14 13 ≡ from (whole_text e es) 14
  unfolding either
  elements =
      let h : Ends (whole_text e es) 14 (123 ∷ first_tail e es (125 ∷ [])) =
      record { is = opened-first e es (125 ∷ []) } in
      elements-from (whole_text e es) 13 (sym (no-blank {k = 14} (stands {k = 14} h) refl))
      (sym (stands_at_lem (stands {k = 14} h))) (λ q. omega arith)

  -- what is written is read again
  pub round : entries_of (json_of (e ∷ es)) ≡ these (e ∷ es)
  unfolding json_of entries_of entries_from pick
  round = rw (place, elements, list.all, list.are) refl
