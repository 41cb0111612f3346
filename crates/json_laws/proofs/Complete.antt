-- What derives from RFC 8259's grammar is accepted by the readers.
use Rattle.std.specs.Prelude.{None, Option, Some}
use Prim.Native.Nat.{ℕ, zero, suc, ◌+◌, ◌≤◌}
use mathlib.Core.Path.{◌≡◌, refl, sym, ◌∙◌, ap}
use mathlib.Core.Bool.{true, false}
use mathlib.Core.List.{List, [], ◌∷◌, ◌++◌, append_assoc, append-nil}
use native.Mathlib.Omega.{arith}
use borrow.Author.Tests.{eq-eqb, ne_eqb}
use lib.Dec.{eqb}
use lib.ListN.{length, get_or, length-drop}
use Rattle.laws.specs.Pick.{pick, either, both}
use Rattle.json_tokens.specs.declared.Step.{Step}
use Rattle.json_tokens.specs.Scan.{then, then_step, starts_with, blank, past_while, after, past_colon}
use Rattle.json_strings.specs.Text.{string_at}
use Rattle.json_values.specs.Value.{literal_at, plain_at, item_step, member_step, array_of, object_of, value_by, value_at, ends_at}
use Rattle.json_values.specs.Value.{is_text}
use Rattle.json_values.proofs.Ahead.{forth-items, forth-members}
use Rattle.json_laws.specs.Rules.{Rule, octets, these, within, join, left, right, absent, present}
use Rattle.json_laws.specs.Abnf
use Rattle.json_laws.proofs.Rest.{Rest, Passes, passes, front, if-true, if-is, if-not, rest-front, rest-past}
use Rattle.json_laws.proofs.Rest.{rest-next, rest-as, rest_all, rest-blanks, Reads, Any, trim, trim-front, trim-ws}
use Rattle.json_laws.proofs.Lists.{Lands, lands, passes-lands, Values, Marked, marked, mark, stops-low, ws-stops}
use Rattle.json_laws.proofs.Lists.{bracket, brace, list-lands, list-front}
use Rattle.json_laws.proofs.CompleteNumber.{Stops, number-reads}
use Rattle.json_laws.proofs.CompleteString.{string-reads}

-- ---- Members.
step-assoc : (r : Option ℕ) (f : ℕ → Option ℕ) (g : ℕ → Step) → then_step r (λ e. then_step (f e) g) ≡ then_step (then r f) g
unfolding then_step then
step-assoc (Some e) f g = refl
step-assoc None f g = refl

pub steps-assoc : (r : Option ℕ) (f : ℕ → Option ℕ) (p : ℕ → Option ℕ) (g : ℕ → Step)
    → then_step r (λ e. then_step (f e) (λ v. then_step (p v) g)) ≡ then_step (then r (λ e. then (f e) p)) g
unfolding then_step then
steps-assoc (Some e) f p g = step-assoc (f e) p g
steps-assoc None f p g = refl

pub string-front : (x t : List ℕ) → Abnf.string x → front (x ++ t) ≡ 34
unfolding Abnf.string Abnf.quotation-mark
string-front x t (join these c) = refl

member-front : (W : Rule) (x t : List ℕ) → Abnf.member W x → front (x ++ t) ≡ 34
unfolding Abnf.member
member-front W x t (join {x = q} {y = y} a b) = ap front (append_assoc q y t) ∙ string-front q (y ++ t) a

quoted : (l : List ℕ) → front l ≡ 34 → trim l ≡ l
unfolding either
quoted l e = trim-front l (rw e refl)

pub member-first : (W : Rule) (x t : List ℕ) → Abnf.member W x → front (trim (x ++ t)) ≡ 125 → ⊥
member-first W x t m e = let f = member-front W x t m in let z = ap front (quoted (x ++ t) f) in omega arith

lands-then : {s t u : List ℕ} {r : Option ℕ} {f : ℕ → Option ℕ} → Passes s t r → ((e : ℕ) → Rest s e t → Lands s u (f e))
    → Lands s u (then r f)
unfolding then
lands-then (passes {e = e} h) g = g e h

-- a member, where p reads a value
abbrev pub member_at : List ℕ → (ℕ → Option ℕ) → ℕ → Option ℕ
member_at s p k = then (string_at s k) (λ e. then (past_colon s e) p)

pub colon-passes : (s : List ℕ) (k : ℕ) (n t : List ℕ) → Abnf.name-separator n → Rest s k (n ++ t)
    → Passes s (trim t) (past_colon s k)
unfolding past_colon Abnf.name-separator either
colon-passes s k n t c h = by (mark 58 n t refl c)
  where
    by : Marked 58 n t → Passes s (trim t) (pick (eqb (get_or s (past_while blank s k) 0) 58)
        (Some (past_while blank s (past_while blank s k + 1))) None)
    by (marked w m g) =
        let r = rest-as g (rest-blanks h) in
        if-is (Passes s (trim t)) None (rest-front r) (passes (rest-as (trim-ws w t m) (rest-blanks (rest-next r))))

module _ (s : List ℕ) (W : Rule) (p : ℕ → Option ℕ) (values : Values s W p) where
  pub member-lands : Values s (Abnf.member W) (member_at s p)
  unfolding Abnf.member
  member-lands k x t (join {x = q} a (join {x = n} {y = v} b c)) d h =
      lands-then (string-reads s k q (n ++ v ++ t) a tt
      (rest-as (ap trim (append_assoc q (n ++ v) t) ∙ quoted (q ++ (n ++ v ++ t)) (string-front q (n ++ v ++ t) a)) h))
      (λ e r. lands-then (colon-passes s e n (v ++ t) b (rest-as (append_assoc n v t) r)) (λ f z. values f v t c d z))

-- ---- Values that hold no other.
starts-with : (w t : List ℕ) → starts_with w (w ++ t) ≡ true
unfolding both
starts-with [] t = refl
starts-with (x ∷ w) t = rw (eq-eqb x x refl) (starts-with w t)

literal-reads : (s w : List ℕ) → Reads s (octets w) Any (literal_at w s)
unfolding literal_at
literal-reads s w k x t these c h = if-true (Passes s t) None (rw h.is (starts-with w t)) (passes (rest-past w t h))

pub number-front : (x t : List ℕ) → Abnf.number x → (45 ≤ front (x ++ t)) × (front (x ++ t) ≤ 57)
unfolding Abnf.number Abnf.minus Abnf.int Abnf.zero Abnf.digit1-9 Abnf.DIGIT
number-front x t (join (present these) r) = (omega arith, omega arith)
number-front x t (join absent (join (left these) r)) = (omega arith, omega arith)
number-front x t (join absent (join (right (join (within l h) m)) r)) = (omega arith, omega arith)

-- how such a value begins
record Scalar (c : ℕ) : Type 0 where
  shown : blank c ≡ false
  object : c ≡ 123 → ⊥
  array : c ≡ 91 → ⊥
  close : c ≡ 93 → ⊥

scalar_is : (c : ℕ) → blank c ≡ false → (c ≡ 123 → ⊥) → (c ≡ 91 → ⊥) → (c ≡ 93 → ⊥) → Scalar c
scalar_is c a b d e = record { shown = a; object = b; array = d; close = e }

pub no-blank : (c : ℕ) → 33 ≤ c → blank c ≡ false
unfolding either
no-blank c h = rw (other 32 (omega arith), other 9 (omega arith), other 10 (omega arith), other 13 (omega arith)) refl
  where
    other : (n : ℕ) → n ≤ 32 → eqb c n ≡ false
    other n g = ne_eqb c n (λ e. omega arith)

scalar-front : (x t : List ℕ) → Abnf.value 0 x → Scalar (front (x ++ t))
unfolding Abnf.value Abnf.false Abnf.null Abnf.true
scalar-front x t (left these) =
    scalar_is 102 (no-blank 102 (omega arith)) (λ e. omega arith) (λ e. omega arith) (λ e. omega arith)
scalar-front x t (right (left these)) =
    scalar_is 110 (no-blank 110 (omega arith)) (λ e. omega arith) (λ e. omega arith) (λ e. omega arith)
scalar-front x t (right (right (left these))) =
    scalar_is 116 (no-blank 116 (omega arith)) (λ e. omega arith) (λ e. omega arith) (λ e. omega arith)
scalar-front x t (right (right (right (left n)))) =
    let f = number-front x t n in scalar_is (front (x ++ t)) (no-blank (front (x ++ t)) (omega arith))
    (λ e. omega arith) (λ e. omega arith) (λ e. omega arith)
scalar-front x t (right (right (right (right q)))) =
    let f = string-front x t q in scalar_is (front (x ++ t)) (no-blank (front (x ++ t)) (omega arith))
    (λ e. omega arith) (λ e. omega arith) (λ e. omega arith)

module _ (s : List ℕ) where
  -- by the first byte, of which a reader of values goes
  as-string : {t u : List ℕ} (k : ℕ) → Rest s k u → front u ≡ 34 → Passes s t (string_at s k) → Passes s t (plain_at s k)
  unfolding plain_at
  as-string {t} k h e p = if-is (Passes s t) _ (rest-front h ∙ e) p

  plain-reads : Reads s (Abnf.value 0) Stops (plain_at s)
  unfolding plain_at Abnf.value Abnf.false Abnf.null Abnf.true
  plain-reads k x t (left these) c h =
      let f = rest-front h in
      if-not (Passes s t) _ (λ (e : get_or s k 0 ≡ 34). omega arith)
      (if-not (Passes s t) _ (λ (e : get_or s k 0 ≡ 116). omega arith)
      (if-is (Passes s t) _ f (literal-reads s _ k x t these tt h)))
  plain-reads k x t (right (left these)) c h =
      let f = rest-front h in
      if-not (Passes s t) _ (λ (e : get_or s k 0 ≡ 34). omega arith)
      (if-not (Passes s t) _ (λ (e : get_or s k 0 ≡ 116). omega arith)
      (if-not (Passes s t) _ (λ (e : get_or s k 0 ≡ 102). omega arith)
      (if-is (Passes s t) _ f (literal-reads s _ k x t these tt h))))
  plain-reads k x t (right (right (left these))) c h =
      let f = rest-front h in
      if-not (Passes s t) _ (λ (e : get_or s k 0 ≡ 34). omega arith)
      (if-is (Passes s t) _ f (literal-reads s _ k x t these tt h))
  plain-reads k x t (right (right (right (left n)))) c h =
      let f = rest-front h in
      let g = number-front x t n in
      if-not (Passes s t) _ (λ (e : get_or s k 0 ≡ 34). omega arith)
      (if-not (Passes s t) _ (λ (e : get_or s k 0 ≡ 116). omega arith)
      (if-not (Passes s t) _ (λ (e : get_or s k 0 ≡ 102). omega arith)
      (if-not (Passes s t) _ (λ (e : get_or s k 0 ≡ 110). omega arith) (number-reads s k x t n c h))))
  plain-reads k x t (right (right (right (right q)))) c h =
      as-string k h (string-front x t q) (string-reads s k x t q tt h)

  plain-lands : (o a : ℕ → Option ℕ) → Values s (Abnf.value 0) (value_by o a s)
  unfolding value_by
  plain-lands o a k x t v c h =
      let z = scalar-front x t v in
      let r = rest-as (trim-front (x ++ t) z.shown) h in
      if-not (Lands s t) _ (λ e. z.object (sym (rest-front r) ∙ e))
      (if-not (Lands s t) _ (λ e. z.array (sym (rest-front r) ∙ e)) (passes-lands (plain-reads k x t v c r)))

-- ---- Values.
-- a value that is no list holds no other
data Kind (d : ℕ) (x : List ℕ) : Type 0 where
  scalar : Abnf.value 0 x → Kind d x
  object : Abnf.object (Abnf.value d) x → Kind d x
  array : Abnf.array (Abnf.value d) x → Kind d x

kind : (d : ℕ) (x : List ℕ) → Abnf.value (suc d) x → Kind d x
unfolding Abnf.value
kind d x (left v) = scalar (left v)
kind d x (right (left v)) = scalar (right (left v))
kind d x (right (right (left v))) = scalar (right (right (left v)))
kind d x (right (right (right (left v)))) = object v
kind d x (right (right (right (right (left v))))) = array v
kind d x (right (right (right (right (right (left v)))))) = scalar (right (right (right (left v))))
kind d x (right (right (right (right (right (right v)))))) = scalar (right (right (right (right v))))

scalar-first : (x t : List ℕ) → Abnf.value 0 x → front (trim (x ++ t)) ≡ 93 → ⊥
scalar-first x t v e = let z = scalar-front x t v in z.close (ap front (sym (trim-front (x ++ t) z.shown)) ∙ e)

pub object-front : (W : Rule) (x t : List ℕ) → Abnf.object W x → front (trim (x ++ t)) ≡ 123
unfolding Abnf.object Abnf.begin-object either
object-front W x t v = list-front 123 refl x t v

pub array-front : (W : Rule) (x t : List ℕ) → Abnf.array W x → front (trim (x ++ t)) ≡ 91
unfolding Abnf.array Abnf.begin-array either
array-front W x t v = list-front 91 refl x t v

pub value-first : (d : ℕ) (x t : List ℕ) → Abnf.value d x → front (trim (x ++ t)) ≡ 93 → ⊥
value-first zero x t v e = scalar-first x t v e
value-first (suc d) x t v e = by (kind d x v)
  where
    by : Kind d x → ⊥
    by (scalar u) = scalar-first x t u e
    by (object u) = let f = object-front (Abnf.value d) x t u in omega arith
    by (array u) = let f = array-front (Abnf.value d) x t u in omega arith

module _ (s : List ℕ) (d : ℕ) (values : Values s (Abnf.value d) (value_at s d)) where
  array-lands : (k : ℕ) (x t : List ℕ) → Abnf.array (Abnf.value d) x → Rest s k (trim (x ++ t))
      → Lands s t (array_of s (value_at s d) k)
  unfolding array_of item_step either Abnf.array Abnf.begin-array Abnf.end-array
  array-lands k x t v h =
      list-lands s (Abnf.value d) (value_at s d) values (item_step s (value_at s d)) (forth-items s d) 93 bracket
      (value-first d) (λ j. refl) 91 refl k x t v h

  object-lands : (k : ℕ) (x t : List ℕ) → Abnf.object (Abnf.value d) x → Rest s k (trim (x ++ t))
      → Lands s t (object_of s (value_at s d) k)
  unfolding object_of member_step either Abnf.object Abnf.begin-object Abnf.end-object
  object-lands k x t v h =
      list-lands s (Abnf.member (Abnf.value d)) (member_at s (value_at s d))
      (member-lands s (Abnf.value d) (value_at s d) values) (member_step s (value_at s d)) (forth-members s d) 125 brace
      (member-first (Abnf.value d)) (λ j. steps-assoc (string_at s j) (past_colon s) (value_at s d) (after s 125))
      123 refl k x t v h

  deeper-lands : (k : ℕ) (x t : List ℕ) → Kind d x → Stops t → Rest s k (trim (x ++ t))
      → Lands s t (value_at s (suc d) k)
  unfolding value_at value_by
  deeper-lands k x t (scalar v) c h = plain-lands s (object_of s (value_at s d)) (array_of s (value_at s d)) k x t v c h
  deeper-lands k x t (object v) c h =
      if-is (Lands s t) _ (rest-front h ∙ object-front (Abnf.value d) x t v) (object-lands k x t v h)
  deeper-lands k x t (array v) c h =
      let f : get_or s k 0 ≡ 91 = rest-front h ∙ array-front (Abnf.value d) x t v in
      if-not (Lands s t) _ (λ (e : get_or s k 0 ≡ 123). omega arith) (if-is (Lands s t) _ f (array-lands k x t v h))

pub value-lands : (s : List ℕ) (d : ℕ) → Values s (Abnf.value d) (value_at s d)
unfolding value_at
value-lands s zero k x t v c h = plain-lands s (λ j. None) (λ j. None) k x t v c h
value-lands s (suc d) k x t v c h = deeper-lands s d (λ j y u. value-lands s d j y u) k x t (kind d x v) c h

-- ---- Texts.
lands-end : (s : List ℕ) {r : Option ℕ} (w : List ℕ) → Abnf.ws w → Lands s (w ++ []) r → ends_at s r ≡ true
unfolding ends_at
lands-end s w m (lands {e = e} h z) =
    let r = rest-as (z ∙ trim-ws w [] m) (rest-blanks h) in
    eq-eqb (past_while blank s e) (length s) (omega
    (arith, r.inside, length-drop (past_while blank s e) s, ap length r.is))

text_of : (s x : List ℕ) → s ≡ x → Abnf.JSON-text 16 x → is_text s ≡ true
unfolding is_text Abnf.JSON-text
text_of s x q (join {x = a} u (join {x = v} {y = w} p m)) =
    lands-end s w m (value-lands s 16 (past_while blank s 0) v (w ++ []) p (ws-stops w [] m (stops-low [] (omega arith)))
    (rest-as (ap trim q ∙ trim-ws a (v ++ w) u ∙ ap (λ l. trim (v ++ l)) (sym (append-nil w)))
    (rest-blanks (rest_all s))))

-- A JSON-text of RFC 8259 that is nested at most 16 deep is accepted by `is_text`.
pub text-complete : (s : List ℕ) → Abnf.JSON-text 16 s → is_text s ≡ true
text-complete s h = text_of s s refl h
