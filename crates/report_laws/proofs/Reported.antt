-- The reader's definition finds entries in a text exactly where the text is a report of these entries.
use Rattle.std.specs.Prelude.{None, Some}
use Prim.Native.Nat.{ℕ, ◌+◌}
use mathlib.Core.Path.{◌≡◌, refl, sym, ◌∙◌, ap, ap₂, subst}
use mathlib.Core.Bool.{Bool, true, false}
use mathlib.Core.List.{List, [], ◌∷◌}
use mathlib.Core.Logic.{◌↔◌}
use native.Mathlib.Omega.{arith}
use borrow.Author.Tests.{eq-eqb, eqb-true}
use lib.Dec.{eqb}
use lib.ListN.{length, get_or}
use Rattle.laws.specs.Pick.{pick, either, both}
use Rattle.json_tokens.specs.Scan.{past_while, blank}
use Rattle.json_strings.specs.Text.{content_at}
use Rattle.json_values.specs.declared.Found.{Found}
use Rattle.json_values.specs.Value.{is_text}
use Rattle.json_values.specs.Members.{members_of, found_of}
use Rattle.base64_strict.specs.Decode.{Decoded, bytes, none, decode64}
use Rattle.report_read.specs.Entry.{Entry, Entries, these, unread, rand_name, key_name, request_name, response_name}
use Rattle.report_read.specs.Entry.{responses_name, string_of, text_place, decoded_at, member_of, is64, held, is32, rand_good}
use Rattle.report_read.specs.Entry.{has_all, entry_at, elements_of, all_of, entries_at, list_of, list_place, entries_from, entries_of}
use Rattle.json_laws.specs.Abnf.{JSON-text}
use Rattle.json_laws.specs.Tree.{Json, Member, members, elements, paired, text_tree, Named}
use Rattle.json_laws.proofs.Exactly.{is-json}
use Rattle.json_laws.proofs.Spans.{both-parts}
use Rattle.json_laws.proofs.At.{At, MemberAt, Each, none as no_place, one as a-place}
use Rattle.json_laws.proofs.Tree.{text_at, one-tree}
use Rattle.json_laws.proofs.Paired.{narrow, decode-paired}
use Rattle.json_laws.proofs.Found.{Finds, finds-none, finds-one, finds-more, members-found, values_of}
use Rattle.json_laws.proofs.Values.{object-is, array-is, string-is, object-at, array-at, string-at}
use Rattle.report_laws.specs.Reported.{Member64, Member32, Rand, ResponseObject, ResponseObjects, no_more, then-more}
use Rattle.report_laws.specs.Reported.{ReportTree, ReportText}

no_bytes : {x : List ℕ} → none ≡ bytes x → ⊥
no_bytes e = let z : ◌≡◌ {A = ℕ} 0 1 = cc in omega arith

not-these : {es : List Entry} → unread ≡ these es → ⊥
not-these e = let z : ◌≡◌ {A = ℕ} 0 1 = cc in omega arith

-- ---- the names
names-narrow : (narrow responses_name ≡ true) × (narrow rand_name ≡ true) × (narrow key_name ≡ true)
    × (narrow request_name ≡ true) × (narrow response_name ≡ true)
unfolding both
names-narrow = (refl, refl, refl, refl, refl)

-- ---- a member, by what is found of its name
module _ (s x : List ℕ) where
  found-is : {d : ℕ} {f : Found} {c : List ℕ} → Finds s d f (Json.string c ∷ []) → decode64 c ≡ bytes x
      → decoded_at s (string_of s f) ≡ bytes x
  unfolding string_of pick
  found-is (finds-one {v = v} a) b =
      let p = string-at a in
      rw (eq-eqb _ 34 p.0) (sym (decode-paired (content_at s (v + 1))) ∙ ap decode64 p.1 ∙ b)

  a-string : {d v : ℕ} {t : Json} (b : Bool) → At s d v t → eqb (get_or s v 0) 34 ≡ b
      → decoded_at s (pick b (Some (v + 1)) None) ≡ bytes x
      → (t ≡ Json.string (paired (content_at s (v + 1)))) × (decode64 (paired (content_at s (v + 1))) ≡ bytes x)
  unfolding pick
  a-string {v = v} true a q h = (string-is a (eqb-true _ 34 q), decode-paired (content_at s (v + 1)) ∙ h)
  a-string false a q h = absurd (no_bytes h)

  a-member : {d : ℕ} {f : Found} {l : List Json} (w : List ℕ) (ms : List Member) → Named w ms l → Finds s d f l
      → decoded_at s (string_of s f) ≡ bytes x → Member64 ms w x
  unfolding string_of
  a-member w ms n finds-none h = absurd (no_bytes h)
  a-member w ms n (finds-one {v = v} a) h =
      let p = a-string (eqb (get_or s v 0) 34) a refl h in
      record {
        characters = paired (content_at s (v + 1));
        once = subst (λ (t : Json). Named w ms (t ∷ [])) p.0 n;
        base64 = p.1;
      }
  a-member w ms n finds-more h = absurd (no_bytes h)

-- ---- base64, and of 32 bytes
held-64 : (d : Decoded) → is64 d ≡ true → d ≡ bytes (held d)
unfolding is64 held
held-64 (bytes x) h = refl
held-64 none h = let z : ◌≡◌ {A = ℕ} 0 1 = cc in absurd (omega arith)

held-32 : (d : Decoded) → is32 d ≡ true → (d ≡ bytes (held d)) × (length (held d) ≡ 32)
unfolding is32 held
held-32 (bytes x) h = (refl, eqb-true _ 32 h)
held-32 none h = let z : ◌≡◌ {A = ℕ} 0 1 = cc in absurd (omega arith)

-- the members of the object at a place, and those of its tree
module _ (s : List ℕ) (at : ℕ) (ms : List Member) (each : Each (MemberAt s 13) (members_of s 13 at) ms) (w : List ℕ)
    (plain : narrow w ≡ true) where
  member_is : {x : List ℕ} → Member64 ms w x → member_of s at w ≡ bytes x
  unfolding member_of text_place
  member_is {x} m = found-is s x (members-found s 13 w plain at ms _ each m.once) m.base64

  member_of_lem : {x : List ℕ} → member_of s at w ≡ bytes x → Member64 ms w x
  unfolding member_of text_place
  member_of_lem {x} h =
      let v = values_of w ms in
      a-member s x w ms v.are (members-found s 13 w plain at ms v.list each v.are) h

  member-64 : is64 (member_of s at w) ≡ true → Member64 ms w (held (member_of s at w))
  member-64 h = member_of_lem (held-64 (member_of s at w) h)

  member-32 : is32 (member_of s at w) ≡ true → Member32 ms w (held (member_of s at w))
  member-32 h = let p = held-32 (member_of s at w) h in record { member = member_of_lem p.0; long = p.1 }

  is_64 : {x : List ℕ} → Member64 ms w x → (is64 (member_of s at w) ≡ true) × (held (member_of s at w) ≡ x)
  unfolding is64 held
  is_64 m = (rw (member_is m) refl, rw (member_is m) refl)

  is_32 : {x : List ℕ} → Member32 ms w x → (is32 (member_of s at w) ≡ true) × (held (member_of s at w) ≡ x)
  unfolding is32 held
  is_32 m = (rw (member_is m.member) (eq-eqb _ 32 m.long), rw (member_is m.member) refl)

-- ---- a response object
module _ (s : List ℕ) where
  a-rand : (first : Bool) (k : ℕ) (ms : List Member) → Each (MemberAt s 13) (members_of s 13 k) ms
      → rand_good s first k ≡ true → Rand first ms (entry_at s first k).rand
  unfolding rand_good entry_at either pick
  a-rand true k ms g h = refl
  a-rand false k ms g h = member-32 s k ms g rand_name names-narrow.1 h

  rand-is : (first : Bool) (k : ℕ) (ms : List Member) (e : Entry) → Each (MemberAt s 13) (members_of s 13 k) ms
      → Rand first ms e.rand → (rand_good s first k ≡ true) × ((entry_at s first k).rand ≡ e.rand)
  unfolding rand_good entry_at either pick
  rand-is true k ms e g h = (refl, sym h)
  rand-is false k ms e g h = is_32 s k ms g rand_name names-narrow.1 h

  an-object : (first : Bool) (k : ℕ) (t : Json) → At s 14 k t → has_all s first k ≡ true
      → ResponseObject first t (entry_at s first k)
  unfolding has_all entry_at
  an-object first k t v h =
      let a = both-parts _ _ h in
      let b = both-parts _ _ a.1 in
      let c = both-parts _ _ b.1 in
      let d = both-parts _ _ c.1 in
      let o = object-is {d = 13} v (eqb-true _ 123 a.0) in
      record {
        list = o.list;
        object = o.is;
        rand = a-rand first k o.list o.each b.0;
        key = member-32 s k o.list o.each key_name names-narrow.2 c.0;
        request = member-64 s k o.list o.each request_name names-narrow.3 d.0;
        response = member-64 s k o.list o.each response_name names-narrow.4 d.1;
      }

  response-is : (first : Bool) (k : ℕ) (t : Json) (e : Entry) → At s 14 k t → ResponseObject first t e
      → (has_all s first k ≡ true) × (entry_at s first k ≡ e)
  unfolding has_all both entry_at
  response-is first k t e v o =
      let g = object-at {d = 13} (subst (At s 14 k) o.object v) in
      let r = rand-is first k o.list e g.1 o.rand in
      let y = is_32 s k o.list g.1 key_name names-narrow.2 o.key in
      let q = is_64 s k o.list g.1 request_name names-narrow.3 o.request in
      let a = is_64 s k o.list g.1 response_name names-narrow.4 o.response in
      (rw (eq-eqb _ 123 g.0, r.0, y.0, q.0, a.0) refl, rw (r.1, y.1, q.1, a.1) refl)

  -- ---- the list
  the-objects : (first : Bool) (ks : List ℕ) (ts : List Json) → Each (At s 14) ks ts → all_of s first ks ≡ true
      → ResponseObjects first ts (entries_at s first ks)
  unfolding all_of entries_at
  the-objects first [] [] no_place h = no_more
  the-objects first [] (t ∷ ts) v h = elim v [ ]
  the-objects first (k ∷ ks) [] v h = elim v [ ]
  the-objects first (k ∷ ks) (t ∷ ts) (a-place v r) h =
      let p = both-parts _ _ h in then-more (an-object first k t v p.0) (the-objects false ks ts r p.1)

  objects-are : (first : Bool) (ks : List ℕ) (ts : List Json) (es : List Entry) → Each (At s 14) ks ts
      → ResponseObjects first ts es → (all_of s first ks ≡ true) × (entries_at s first ks ≡ es)
  unfolding all_of entries_at both
  objects-are first [] [] [] no_place no_more = (refl, refl)
  objects-are first [] [] (e ∷ es) v o = elim o [ ]
  objects-are first [] (t ∷ ts) es v o = elim v [ ]
  objects-are first (k ∷ ks) [] es v o = elim v [ ]
  objects-are first (k ∷ ks) (t ∷ ts) [] v o = elim o [ ]
  objects-are first (k ∷ ks) (t ∷ ts) (e ∷ es) (a-place v r) (then-more o more) =
      let p = response-is first k t e v o in
      let q = objects-are false ks ts es r more in
      (rw (p.0, q.0) refl, ap₂ (λ (x : Entry) (y : List Entry). x ∷ y) p.1 q.1)

-- ---- a report
-- the place where the value of a text begins, past the blanks
abbrev outermost : List ℕ → ℕ
outermost s = past_while blank s 0

module _ (s : List ℕ) (es : List Entry) where
  -- the value of "responses" is a list of response objects
  record AList (t : Json) : Type 0 where
    objects : List Json
    is : t ≡ Json.array (elements objects)
    responses : ResponseObjects true objects es

  all_found : (v : ℕ) (b : Bool) (ts : List Json) → Each (At s 14) (elements_of s 14 v) ts
      → all_of s true (elements_of s 14 v) ≡ b
      → pick b (these (entries_at s true (elements_of s 14 v))) unread ≡ these es → ResponseObjects true ts es
  unfolding pick
  all_found v true ts g a h =
      let same : entries_at s true (elements_of s 14 v) ≡ es = cc in
      rw same at (the-objects s true (elements_of s 14 v) ts g a)
  all_found v false ts g a h = absurd (not-these h)

  list-found : (v : ℕ) (t : Json) (b : Bool) → At s 15 v t → eqb (get_or s v 0) 91 ≡ b
      → entries_from s (pick b (Some v) None) ≡ these es → AList t
  unfolding entries_from pick
  list-found v t true a q h =
      let l = array-is {d = 14} a (eqb-true _ 91 q) in
      record {
        objects = l.list;
        is = l.is;
        responses = all_found v (all_of s true (elements_of s 14 v)) l.list l.each refl h;
      }
  list-found v t false a q h = absurd (not-these h)

  value_found : {f : Found} {l : List Json} (t : Json) (list : List Member) → t ≡ Json.object (members list)
      → Named responses_name list l → Finds s 15 f l → entries_from s (list_of s f) ≡ these es → ReportTree t es
  unfolding entries_from list_of
  value_found t list o n finds-none h = absurd (not-these h)
  value_found t list o n (finds-one {v = v} {t = u} a) h =
      let p = list-found v u (eqb (get_or s v 0) 91) a refl h in
      record {
        list = list;
        object = o;
        objects = p.objects;
        once = subst (λ (x : Json). Named responses_name list (x ∷ [])) p.is n;
        responses = p.responses;
      }
  value_found t list o n finds-more h = absurd (not-these h)

  object-found : (t : Json) (b : Bool) → At s 16 (outermost s) t → eqb (get_or s (outermost s) 0) 123 ≡ b
      → entries_from s (pick b (list_of s (found_of s responses_name 15 (outermost s))) None) ≡ these es → ReportTree t es
  unfolding entries_from pick
  object-found t true a q h =
      let o = object-is {d = 15} a (eqb-true _ 123 q) in
      let v = values_of responses_name o.list in
      value_found t o.list o.is v.are
      (members-found s 15 responses_name names-narrow.0 (outermost s) o.list v.list o.each v.are) h
  object-found t false a q h = absurd (not-these h)

  text-found : (b : Bool) → is_text s ≡ b
      → entries_from s (pick b (pick (eqb (get_or s (outermost s) 0) 123)
      (list_of s (found_of s responses_name 15 (outermost s))) None) None) ≡ these es
      → ReportText s es
  unfolding entries_from pick
  text-found true t h =
      let j = (is-json s).0 t in
      record {
        json = j;
        report = object-found (text_tree 16 s j) (eqb (get_or s (outermost s) 0) 123) (text_at 16 s j) refl h;
      }
  text-found false t h = absurd (not-these h)

  -- the entries that the reader finds are a report's, of which the text is one,
  pub report-found : entries_of s ≡ these es → ReportText s es
  unfolding entries_of list_place
  report-found h = text-found (is_text s) refl h

  list_read : {f : Found} {ts : List Json} → Finds s 15 f (Json.array (elements ts) ∷ [])
      → ResponseObjects true ts es → entries_from s (list_of s f) ≡ these es
  unfolding entries_from list_of pick
  list_read {ts = ts} (finds-one {v = v} a) r =
      let g = array-at {d = 14} a in
      let p = objects-are s true (elements_of s 14 v) ts es g.1 r in
      rw (eq-eqb _ 91 g.0, p.0, p.1) refl

  -- and the entries of a report are found
  pub report-read : ReportText s es → entries_of s ≡ these es
  unfolding entries_of list_place pick
  report-read r =
      let q = r.report in
      let g = object-at {d = 15} (subst (At s 16 (outermost s)) q.object (text_at 16 s r.json)) in
      rw ((is-json s).1 r.json, eq-eqb _ 123 g.0)
      (list_read (members-found s 15 responses_name names-narrow.0 (outermost s) q.list _ g.1 q.once)
      q.responses)

pub report-exactly : (s : List ℕ) (es : List Entry) → (entries_of s ≡ these es) ↔ ReportText s es
report-exactly s es = (report-found s es, report-read s es)

-- and none are exactly where the text is no report
pub unread-exactly : (s : List ℕ) → (entries_of s ≡ unread) ↔ ((es : List Entry) → ReportText s es → ⊥)
unread-exactly s = (λ e es r. not-these (sym e ∙ report-read s es r), λ f. by f (entries_of s) refl)
  where
    by : ((es : List Entry) → ReportText s es → ⊥) → (x : Entries) → entries_of s ≡ x → entries_of s ≡ unread
    by f (these es) e = absurd (f es (report-found s es e))
    by f unread e = e

-- so a text is a report in one way at most,
pub one-report : (s : List ℕ) (es fs : List Entry) → ReportText s es → ReportText s fs → es ≡ fs
one-report s es fs p q =
    let same : these es ≡ these fs = sym (report-read s es p) ∙ report-read s fs q in cc

-- and it is one by every derivation, or by none
pub any-derivation : (s : List ℕ) (es : List Entry) → ReportText s es → (j : JSON-text 16 s)
    → ReportTree (text_tree 16 s j) es
any-derivation s es r j = subst (λ t. ReportTree t es) (one-tree 16 s r.json j) r.report
