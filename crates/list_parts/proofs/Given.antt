-- What is answered, and what is left in the buffer.
use Rattle.std.specs.Prelude.{Err, None, Ok, Option, Result, Some}
use Prim.Native.Nat.{ℕ, ◌≤◌, ◌<◌}
use mathlib.Core.Path.{◌≡◌, refl, sym, ◌∙◌, ap}
use mathlib.Core.Bool.{Bool}
use mathlib.Core.List.{List}
use native.Mathlib.Omega.{arith}
use borrow.Author.Tests.{ne_eqb, lt-ltb, le-ltb}
use lib.ListN.{length}
use Rattle.laws.specs.Ascii.{ascii}
use Rattle.laws.specs.Pasted.{fronted}
use Rattle.laws.specs.Pick.{pick}
use Rattle.laws.specs.Written.{written}
use Rattle.laws.proofs.Written.{written-refused}
use Rattle.refusal.specs.declared.Refusal.{Refusal}
use Rattle.refusal.specs.Refusal.{refusal}
use Rattle.json_strings.specs.Text.{content_at}
use Rattle.json_text.specs.Octets.{Text, octets, none, text_of, plain, size_of}
use Rattle.json_values.specs.declared.Found.{Found}
use Rattle.report_read.specs.Entry.{string_of}
use Rattle.list_read.specs.declared.Survey.{Survey}
use Rattle.list_read.specs.Server.{text_in, text_by, is_word, of_address, address_at, address_name, protocol_name}
use Rattle.list_read.specs.Listed.{list_of}
use Rattle.list_read.specs.Read.{list_code}
use Rattle.list_read.specs.Facts.{Surveys}
use Rattle.list_parts.specs.declared.Addressed.{Addressed}
use Rattle.list_parts.specs.Parts.{put_of, part_of, part_number, addressed_by, addressed_number}

-- ---- The text of a string.
module _ (s : List ℕ) (f : Found) {x : Option ℕ} (e : x ≡ string_of s f) where
  pub text_at : {p : ℕ} → x ≡ Some p → text_by s f ≡ text_of (content_at s p)
  unfolding text_by text_in
  text_at h = rw (sym e ∙ h) refl

  pub text-none : x ≡ None → text_by s f ≡ none
  unfolding text_by text_in
  text-none h = rw (sym e ∙ h) refl

pub size_none : (t : Text) {z : Option ℕ} → z ≡ size_of 0 t → z ≡ None → t ≡ none
size_none (octets x) e h = cc
size_none none e h = refl

size-some : (t : Text) {z : Option ℕ} {n : ℕ} → z ≡ size_of 0 t → z ≡ Some n → (t ≡ octets (plain t)) ×
    (n ≡ length (plain t))
size-some (octets x) {z} {n} e h = let q : Some n ≡ Some (length x) = sym h ∙ e ∙ ap Some (omega arith) in (refl, cc)
size-some none e h = cc

-- the text t put into the buffer o
abbrev pub Puts : Text → List ℕ → Result ℕ Refusal → List ℕ → Type 0
Puts t o r out = (r ≡ put_of t (length o)) × (out ≡ written (part_number r) (plain t) o)

pub puts_none : (t : Text) (o : List ℕ) {why : Refusal} → t ≡ none → why ≡ refusal 36 → Puts t o (Err why) o
unfolding put_of
puts_none t o e h = rw (e, h) (refl, refl)

module _ (t : Text) (o : List ℕ) {z : Option ℕ} {n : ℕ} (e : z ≡ size_of 0 t) (f : z ≡ Some n) where
  fits : put_of t (length o) ≡ put_of (octets (plain t)) (length o)
  fits = ap (λ u. put_of u (length o)) (size-some t e f).0

  pub puts-short : {why : Refusal} → length o < n → why ≡ refusal 19 → Puts t o (Err why) o
  unfolding put_of pick
  puts-short h g = let l = (size-some t e f).1 in
      rw g (sym (fits ∙ rw (lt-ltb (length o) (length (plain t)) (omega arith)) refl), refl)

  room : n ≤ length o → length (plain t) ≤ length o
  room h = let l = (size-some t e f).1 in omega arith

  pub puts-done : {out : List ℕ} → n ≤ length o → out ≡ fronted (plain t) o → Puts t o (Ok n) out
  unfolding put_of pick
  puts-done h g = let l = (size-some t e f).1 in
      (sym (fits ∙ rw (le-ltb (length o) (length (plain t)) (omega arith)) (ap Ok (sym l))), g)

pub puts-room : (s : List ℕ) (f : Found) (o : List ℕ) {x : Option ℕ} {p n : ℕ} {z : Option ℕ} → x ≡ string_of s f
    → x ≡ Some p
    → z ≡ size_of 0 (text_of (content_at s p)) → z ≡ Some n → n ≤ length o → length (plain (text_of (content_at s p)))
    ≤ length o
puts-room s f o {p = p} a b e h g = room (text_of (content_at s p)) o e h g

-- ---- The same of an address, with its protocol.
abbrev pub Tells : Bool → Text → List ℕ → Result Addressed Refusal → List ℕ → Type 0
Tells tcp t o r out = (r ≡ addressed_by tcp (put_of t (length o))) × (out ≡ written (addressed_number r) (plain t) o)

pub tells_none : (tcp : Bool) (t : Text) (o : List ℕ) {why : Refusal} → t ≡ none → why ≡ refusal 36
    → Tells tcp t o (Err why) o
unfolding put_of
tells_none tcp t o e h = rw (e, h) (refl, refl)

pub tells-put : (s o : List ℕ) (m : ℕ) {f g : Found} {x : Option ℕ} {tcp : Bool} {p : Result ℕ Refusal} {r : Result Addressed Refusal} {out : List ℕ}
    → f ≡ of_address s m protocol_name → x ≡ string_of s f → tcp ≡ is_word s x (ascii "tcp")
    → g ≡ of_address s m address_name → Puts (text_by s g) o p out → r ≡ addressed_by tcp p
    → addressed_number r ≡ part_number p → Tells (address_at s m).tcp (text_by s (of_address s m address_name)) o r out
unfolding address_at
tells-put s o m {f} {g} {x} {tcp} {p} {r} a b d e q h n = (
  h ∙ ap (λ y. addressed_by y p) (d ∙ ap (λ y. is_word s y (ascii "tcp")) (b ∙ ap (string_of s) a))
      ∙ ap (addressed_by (is_word s (string_of s (of_address s m protocol_name)) (ascii "tcp")))
      (q.0 ∙ ap (λ y. put_of (text_by s y) (length o)) e),
  q.1 ∙ ap (λ y. written y (plain (text_by s g)) o) (sym n)
      ∙ ap (λ y. written (addressed_number r) (plain (text_by s y)) o) e,
)

pub tells-same : {tcp tcps : Bool} {t u : Text} (o : List ℕ) {out : List ℕ} (r : Result Addressed Refusal) → tcps ≡ tcp → u ≡ t
    → Tells tcp t o r out → Tells tcps u o r out
tells-same o r e f q = rw (e, f) q

-- ---- Of a list: 24 and 25 first.
module _ (s : List ℕ) (t : Text) (o : List ℕ) where
  part-refused : {why : Refusal} → Surveys s (Err why) → Err why ≡ part_of (list_of s) t (length o)
  unfolding part_of pick
  part-refused v = rw v.0 (rw (ne_eqb (list_code (list_of s)) 0 v.1) refl)

  part-put : {y : Survey} → Surveys s (Ok y) → put_of t (length o) ≡ part_of (list_of s) t (length o)
  unfolding part_of pick
  part-put v = rw v.0 refl

  pub given-code : {why : Refusal} → Surveys s (Err why)
      → (Err why ≡ part_of (list_of s) t (length o)) × (o ≡ written why.code (plain t) o)
  given-code v = (part-refused v, rw v.0 (written-refused (list_code (list_of s)) (plain t) o v.1))

  pub given-put : {y : Survey} {u : Text} {r : Result ℕ Refusal} {out : List ℕ} → Surveys s (Ok y) → t ≡ u → Puts u o r out
      → (r ≡ part_of (list_of s) t (length o)) × (out ≡ written (part_number r) (plain t) o)
  given-put {r = r} v e q = (
    q.0 ∙ ap (λ x. put_of x (length o)) (sym e) ∙ part-put v,
    q.1 ∙ ap (λ x. written (part_number r) (plain x) o) (sym e),
  )

  pub told-code : (tcp : Bool) {why : Refusal} → Surveys s (Err why)
      → (Err why ≡ addressed_by tcp (part_of (list_of s) t (length o))) × (o ≡ written why.code (plain t) o)
  told-code tcp v =
      (ap (addressed_by tcp) (part-refused v), rw v.0 (written-refused (list_code (list_of s)) (plain t) o v.1))

  pub told-put : (tcp : Bool) {y : Survey} {r : Result Addressed Refusal} {out : List ℕ} → Surveys s (Ok y)
      → Tells tcp t o r out
      → (r ≡ addressed_by tcp (part_of (list_of s) t (length o))) × (out ≡ written (addressed_number r) (plain t) o)
  told-put tcp v q = (q.0 ∙ ap (addressed_by tcp) (part-put v), q.1)
