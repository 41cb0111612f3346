-- At a place of a text stands a value with a tree: what the readers of json say there, by the value's kind. The members
-- of an object and the elements of an array, as the readers find them, are those of the tree, in order.
use Rattle.std.specs.Prelude.{None, Option, Some}
use Prim.Native.Nat.{ℕ, zero, suc, ◌+◌, ◌-◌, ◌≤◌}
use mathlib.Core.Path.{◌≡◌, refl, ◌∙◌, ap}
use mathlib.Core.List.{List, [], ◌∷◌, ◌++◌, append_assoc}
use native.Mathlib.Omega.{arith}
use lib.ListN.{length, get_or, take, drop, length-append, length-drop}
use lib.Seq.{take-append_seam}
use Rattle.laws.specs.Pick.{pick, either}
use Rattle.json_tokens.specs.Scan.{after, past_colon}
use Rattle.json_tokens.specs.Number.{number_at}
use Rattle.json_strings.specs.Text.{string_at, content_at}
use Rattle.json_values.specs.Value.{item_step, member_step, value_at}
use Rattle.json_values.specs.Members.{members_of, place_of, value_place}
use Rattle.json_values.proofs.Ahead.{forth-items, forth-members}
use Rattle.report_read.specs.Entry.{elements_of}
use Rattle.json_laws.specs.Rules.{these, join, left, right}
use Rattle.json_laws.specs.Abnf
use Rattle.json_laws.specs.Tree.{Json, Member, members, elements, paired, string_of, member_of, members_in, elements_in}
use Rattle.json_laws.specs.Tree.{tree_of}
use Rattle.json_laws.proofs.Rest.{Rest, Passes, passes, front, rest-front, rest-as, passes_then, trim, trim-front}
use Rattle.json_laws.proofs.CompleteNumber.{Stops, number-reads}
use Rattle.json_laws.proofs.CompleteString.{string-reads, string-held}
use Rattle.json_laws.proofs.Lists.{Stand, nothing, also, bracket, brace, list-stand}
use Rattle.json_laws.proofs.Complete.{value-lands, member-lands, member_at, member-first, value-first, steps-assoc}
use Rattle.json_laws.proofs.Complete.{colon-passes, no-blank, string-front, number-front, object-front, array-front}

-- ---- A value at a place, with the tree t: what stands behind it does not go on with it.
pub record At (s : List ℕ) (d k : ℕ) (t : Json) : Type 0 where
  pub text : List ℕ
  pub behind : List ℕ
  pub derived : Abnf.value d text
  pub means : tree_of d text derived ≡ t
  pub stops : Stops behind
  pub stands : Rest s k (trim (text ++ behind))

-- a member at a place: its name, and its value where the readers look for it
pub record MemberAt (s : List ℕ) (d k : ℕ) (m : Member) : Type 0 where
  pub quote : get_or s k 0 ≡ 34
  pub name : paired (content_at s (k + 1)) ≡ m.name
  pub value : At s d (value_place s k) m.value

-- one after the other
pub data Each {A : Type 0} (P : ℕ → A → Type 0) : List ℕ → List A → Type 0 where
  none : Each P [] []
  one : {k : ℕ} {ks : List ℕ} {a : A} {l : List A} → P k a → Each P ks l → Each P (k ∷ ks) (a ∷ l)

-- the text from k to where a reader ends
abbrev pub text_to : List ℕ → ℕ → Option ℕ → List ℕ
text_to s k (Some e) = take (e - k) (drop k s)
text_to s k None = []

-- what the readers say of a value with the tree t at k, by its first byte
pub data Shows (s : List ℕ) (k : ℕ) : ℕ → Json → Type 0 where
  a-false : {d : ℕ} → get_or s k 0 ≡ 102 → Shows s k d Json.false
  a-null : {d : ℕ} → get_or s k 0 ≡ 110 → Shows s k d Json.null
  a-true : {d : ℕ} → get_or s k 0 ≡ 116 → Shows s k d Json.true
  an-object : {d : ℕ} {ms : List Member} → get_or s k 0 ≡ 123 → Each (MemberAt s d) (members_of s d k) ms
      → Shows s k (suc d) (Json.object (members ms))
  an-array : {d : ℕ} {ts : List Json} → get_or s k 0 ≡ 91 → Each (At s d) (elements_of s d k) ts
      → Shows s k (suc d) (Json.array (elements ts))
  a-number : {d : ℕ} {x : List ℕ} → 45 ≤ get_or s k 0 → get_or s k 0 ≤ 57 → text_to s k (number_at s k) ≡ x
      → Shows s k d (Json.number x)
  a-string : {d : ℕ} {x : List ℕ} → get_or s k 0 ≡ 34 → paired (content_at s (k + 1)) ≡ x → Shows s k d (Json.string x)

-- ---- Values that hold no other.
module _ (s : List ℕ) (k : ℕ) where
  untrimmed : (l : List ℕ) → 33 ≤ front l → Rest s k (trim l) → Rest s k l
  untrimmed l g h = rest-as (trim-front l (no-blank (front l) g)) h

  ends-at : {r : Option ℕ} (x t : List ℕ) → Passes s t r → Rest s k (x ++ t) → text_to s k r ≡ x
  ends-at x t (passes {e = e} g) h =
      let z : e - k ≡ length x =
      omega (
        arith,
        g.inside,
        h.inside,
        ap length g.is,
        ap length h.is,
        length-drop k s,
        length-drop e s,
        length-append x t,
      ) in
      rw (z, h.is) (take-append_seam x t)

  number-shows : (d : ℕ) (x t : List ℕ) → Abnf.number x → Stops t → Rest s k (trim (x ++ t))
      → Shows s k d (Json.number x)
  number-shows d x t n c h =
      let f = number-front x t n in
      let r = untrimmed (x ++ t) (omega arith) h in
      let g = rest-front r in
      a-number (omega arith) (omega arith) (ends-at x t (number-reads s k x t n c r) r)

  string-shows : (d : ℕ) (x t : List ℕ) (q : Abnf.string x) → Rest s k (trim (x ++ t))
      → Shows s k d (Json.string (string_of x q))
  string-shows d x t q h =
      let f = string-front x t q in
      let r = untrimmed (x ++ t) (omega arith) h in
      a-string (rest-front r ∙ f) (string-held s k x t q r)

-- ---- Objects and arrays.
placed : {s t : List ℕ} {r : Option ℕ} → Passes s t r → Rest s (place_of r) t
unfolding place_of
placed (passes h) = h

module _ (s : List ℕ) (d : ℕ) where
  value-at : (k : ℕ) (x t : List ℕ) (v : Abnf.value d x) → Stops t → Rest s k (trim (x ++ t))
      → At s d k (tree_of d x v)
  value-at k x t v c h =
      record { text = x; behind = t; derived = v; means = refl; stops = c; stands = h }

  member-at : (k : ℕ) (x t : List ℕ) (m : Abnf.member (Abnf.value d) x) → Stops t → Rest s k (trim (x ++ t))
      → MemberAt s d k (member_of (λ y. tree_of d y) x m)
  unfolding member_of value_place Abnf.member
  member-at k x t (join {x = q} a (join {x = n} {y = v} b w)) c h =
      let u : List ℕ = n ++ (v ++ t) in
      let f = string-front q u a in
      let r = untrimmed s k (q ++ u) (omega arith) (rest-as (ap trim (append_assoc q (n ++ v) t ∙ ap (λ l. q ++ l)
      (append_assoc n v t))) h) in
      record {
        quote = rest-front r ∙ f;
        name = string-held s k q u a r;
        value =
            value-at (place_of _) v t w c (placed (passes_then (string-reads s k q u a tt r)
            (λ e z. colon-passes s e n (v ++ t) b z)));
      }

  elements-each : {ks : List ℕ} {ts : List Json} → Stand s (λ y. tree_of d y) ks ts → Each (At s d) ks ts
  elements-each nothing = none
  elements-each (also {k = k} {x = x} t v c h r) = one (value-at k x t v c h) (elements-each r)

  members-each : {ks : List ℕ} {ms : List Member} → Stand s (member_of (λ y. tree_of d y)) ks ms
      → Each (MemberAt s d) ks ms
  members-each nothing = none
  members-each (also {k = k} {x = x} t m c h r) = one (member-at k x t m c h) (members-each r)

  members-stand : (k : ℕ) (x t : List ℕ) (o : Abnf.object (Abnf.value d) x) → Rest s k (trim (x ++ t))
      → Stand s (member_of (λ y. tree_of d y)) (members_of s d k) (members_in (λ y. tree_of d y) x o)
  unfolding members_of members_in member_step either Abnf.object Abnf.begin-object Abnf.end-object
  members-stand k x t o h =
      list-stand s (Abnf.member (Abnf.value d)) (member_at s (value_at s d))
      (member-lands s (Abnf.value d) (value_at s d) (value-lands s d)) (member_step s (value_at s d)) (forth-members s d)
      125 brace (member-first (Abnf.value d))
      (λ j. steps-assoc (string_at s j) (past_colon s) (value_at s d) (after s 125)) (member_of (λ y. tree_of d y)) 123 refl
      k x t o h

  elements-stand : (k : ℕ) (x t : List ℕ) (a : Abnf.array (Abnf.value d) x) → Rest s k (trim (x ++ t))
      → Stand s (λ y. tree_of d y) (elements_of s d k) (elements_in (λ y. tree_of d y) x a)
  unfolding elements_of elements_in item_step either Abnf.array Abnf.begin-array Abnf.end-array
  elements-stand k x t a h =
      list-stand s (Abnf.value d) (value_at s d) (value-lands s d) (item_step s (value_at s d)) (forth-items s d) 93
      bracket (value-first d) (λ j. refl) (λ y. tree_of d y) 91 refl k x t a h

  object-shows : (k : ℕ) (x t : List ℕ) (o : Abnf.object (Abnf.value d) x) → Rest s k (trim (x ++ t))
      → Shows s k (suc d) (Json.object (members (members_in (λ y. tree_of d y) x o)))
  object-shows k x t o h =
      an-object (rest-front h ∙ object-front (Abnf.value d) x t o) (members-each (members-stand k x t o h))

  array-shows : (k : ℕ) (x t : List ℕ) (a : Abnf.array (Abnf.value d) x) → Rest s k (trim (x ++ t))
      → Shows s k (suc d) (Json.array (elements (elements_in (λ y. tree_of d y) x a)))
  array-shows k x t a h =
      an-array (rest-front h ∙ array-front (Abnf.value d) x t a) (elements-each (elements-stand k x t a h))

-- ---- Values.
shows : (s : List ℕ) (d k : ℕ) (x t : List ℕ) (v : Abnf.value d x) → Stops t → Rest s k (trim (x ++ t))
    → Shows s k d (tree_of d x v)
unfolding tree_of Abnf.value Abnf.false Abnf.null Abnf.true either pick
shows s zero k x t (left these) c h = a-false (rest-front h)
shows s zero k x t (right (left these)) c h = a-null (rest-front h)
shows s zero k x t (right (right (left these))) c h = a-true (rest-front h)
shows s zero k x t (right (right (right (left v)))) c h = number-shows s k zero x t v c h
shows s zero k x t (right (right (right (right v)))) c h = string-shows s k zero x t v h
shows s (suc d) k x t (left these) c h = a-false (rest-front h)
shows s (suc d) k x t (right (left these)) c h = a-null (rest-front h)
shows s (suc d) k x t (right (right (left these))) c h = a-true (rest-front h)
shows s (suc d) k x t (right (right (right (left v)))) c h = object-shows s d k x t v h
shows s (suc d) k x t (right (right (right (right (left v))))) c h = array-shows s d k x t v h
shows s (suc d) k x t (right (right (right (right (right (left v)))))) c h = number-shows s k (suc d) x t v c h
shows s (suc d) k x t (right (right (right (right (right (right v)))))) c h = string-shows s k (suc d) x t v h

pub at-shows : {s : List ℕ} {d k : ℕ} {t : Json} → At s d k t → Shows s k d t
at-shows {s} {d} {k} a = rw a.means at (shows s d k a.text a.behind a.derived a.stops a.stands)
