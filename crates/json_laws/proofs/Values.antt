-- Which kind of value stands at a place is told by its first byte; of an object the members stand where the readers
-- find them, of an array the elements, a string holds what its characters are, and a number is its text.
use Rattle.std.specs.Prelude.{Option, Some}
use Prim.Native.Nat.{ℕ, suc, ◌+◌, ◌-◌, ◌≤◌}
use mathlib.Core.Path.{◌≡◌, refl, sym, ◌∙◌, ap}
use mathlib.Core.List.{List, ◌++◌}
use native.Mathlib.Nat.{add-zero}
use native.Mathlib.Omega.{arith}
use lib.ListN.{get_or, take, drop}
use lib.Seq.{get_or-drop}
use Rattle.json_tokens.specs.Number.{number_at}
use Rattle.json_strings.specs.Text.{content_at}
use Rattle.json_values.specs.Members.{members_of}
use Rattle.report_read.specs.Entry.{elements_of}
use Rattle.json_laws.specs.Abnf
use Rattle.json_laws.specs.Tree.{Json, Member, members, elements, paired}
use Rattle.json_laws.proofs.Spans.{Sound, past, bad}
use Rattle.json_laws.proofs.SoundNumber.{sound-number}
use Rattle.json_laws.proofs.Rest.{front}
use Rattle.json_laws.proofs.Complete.{number-front}
use Rattle.json_laws.proofs.At.{At, MemberAt, Each, text_to, Shows, a-false, a-null, a-true, an-object, an-array}
use Rattle.json_laws.proofs.At.{a-number, a-string, at-shows}
use Rattle.json_laws.proofs.Tree.{same-elements, same-members}

-- ---- By the first byte: what the tree is.
pub record AnObject (s : List ℕ) (d k : ℕ) (t : Json) : Type 0 where
  pub list : List Member
  pub is : t ≡ Json.object (members list)
  pub each : Each (MemberAt s d) (members_of s d k) list

pub record AnArray (s : List ℕ) (d k : ℕ) (t : Json) : Type 0 where
  pub list : List Json
  pub is : t ≡ Json.array (elements list)
  pub each : Each (At s d) (elements_of s d k) list

module _ {s : List ℕ} {d k : ℕ} {t : Json} where
  pub object-is : At s (suc d) k t → get_or s k 0 ≡ 123 → AnObject s d k t
  object-is a o = by (at-shows a)
    where
      by : {e : ℕ} {u : Json} → Shows s k (suc e) u → AnObject s e k u
      by (a-false e) = absurd (omega arith)
      by (a-null e) = absurd (omega arith)
      by (a-true e) = absurd (omega arith)
      by (an-object {ms = ms} e p) = record { list = ms; is = refl; each = p }
      by (an-array e p) = absurd (omega arith)
      by (a-number l h g) = absurd (omega arith)
      by (a-string e g) = absurd (omega arith)

  pub array-is : At s (suc d) k t → get_or s k 0 ≡ 91 → AnArray s d k t
  array-is a o = by (at-shows a)
    where
      by : {e : ℕ} {u : Json} → Shows s k (suc e) u → AnArray s e k u
      by (a-false e) = absurd (omega arith)
      by (a-null e) = absurd (omega arith)
      by (a-true e) = absurd (omega arith)
      by (an-object e p) = absurd (omega arith)
      by (an-array {ts = ts} e p) = record { list = ts; is = refl; each = p }
      by (a-number l h g) = absurd (omega arith)
      by (a-string e g) = absurd (omega arith)

  pub string-is : At s d k t → get_or s k 0 ≡ 34 → t ≡ Json.string (paired (content_at s (k + 1)))
  string-is a o = by (at-shows a)
    where
      by : {e : ℕ} {u : Json} → Shows s k e u → u ≡ Json.string (paired (content_at s (k + 1)))
      by (a-false e) = absurd (omega arith)
      by (a-null e) = absurd (omega arith)
      by (a-true e) = absurd (omega arith)
      by (an-object e p) = absurd (omega arith)
      by (an-array e p) = absurd (omega arith)
      by (a-number l h g) = absurd (omega arith)
      by (a-string e g) = ap Json.string (sym g)

  pub number_is : At s d k t → 45 ≤ get_or s k 0 → get_or s k 0 ≤ 57 → t ≡ Json.number (text_to s k (number_at s k))
  number_is a l h = by (at-shows a)
    where
      by : {e : ℕ} {u : Json} → Shows s k e u → u ≡ Json.number (text_to s k (number_at s k))
      by (a-false e) = absurd (omega arith)
      by (a-null e) = absurd (omega arith)
      by (a-true e) = absurd (omega arith)
      by (an-object e p) = absurd (omega arith)
      by (an-array e p) = absurd (omega arith)
      by (a-number i j g) = ap Json.number (sym g)
      by (a-string e g) = absurd (omega arith)

-- where the reader of numbers reads one, a minus sign or a digit stands first
number-first : {s : List ℕ} {k e : ℕ} {r : Option ℕ} → Sound Abnf.number s k r → r ≡ Some e
    → (45 ≤ get_or s k 0) × (get_or s k 0 ≤ 57)
number-first {s} {k} (past {e = e} p) q =
    let f = number-front p.text (drop e s) p.derived in
    let g : get_or s k 0 ≡ front (p.text ++ drop e s) =
    ap (λ i. get_or s i 0) (sym (add-zero k)) ∙ sym (get_or-drop k s 0 0) ∙ ap front p.stands in
    (omega arith, omega arith)
number-first bad q = let z : ◌≡◌ {A = ℕ} 0 1 = cc in absurd (omega arith)

pub number_past : {s : List ℕ} {d k : ℕ} {t : Json} (e : ℕ) → At s d k t → number_at s k ≡ Some e
    → t ≡ Json.number (take (e - k) (drop k s))
number_past {s} {k = k} e a q =
    let f = number-first (sound-number s k) q in
    number_is a f.0 f.1 ∙ ap (λ r. Json.number (text_to s k r)) q

-- ---- By the tree: what the readers say.
module _ {s : List ℕ} {d k : ℕ} where
  pub object-at : {ms : List Member} → At s (suc d) k (Json.object (members ms))
      → (get_or s k 0 ≡ 123) × Each (MemberAt s d) (members_of s d k) ms
  object-at {ms} a = by refl (at-shows a)
    where
      by : {t : Json} → t ≡ Json.object (members ms) → Shows s k (suc d) t
          → (get_or s k 0 ≡ 123) × Each (MemberAt s d) (members_of s d k) ms
      by q (a-false e) = let z : ◌≡◌ {A = ℕ} 0 1 = cc in absurd (omega arith)
      by q (a-null e) = let z : ◌≡◌ {A = ℕ} 0 1 = cc in absurd (omega arith)
      by q (a-true e) = let z : ◌≡◌ {A = ℕ} 0 1 = cc in absurd (omega arith)
      by q (an-object {ms = ns} e p) = (e, rw (same-members ns ms q) at p)
      by q (an-array e p) = let z : ◌≡◌ {A = ℕ} 0 1 = cc in absurd (omega arith)
      by q (a-number l h g) = let z : ◌≡◌ {A = ℕ} 0 1 = cc in absurd (omega arith)
      by q (a-string e g) = let z : ◌≡◌ {A = ℕ} 0 1 = cc in absurd (omega arith)

  pub array-at : {ts : List Json} → At s (suc d) k (Json.array (elements ts))
      → (get_or s k 0 ≡ 91) × Each (At s d) (elements_of s d k) ts
  array-at {ts} a = by refl (at-shows a)
    where
      by : {t : Json} → t ≡ Json.array (elements ts) → Shows s k (suc d) t
          → (get_or s k 0 ≡ 91) × Each (At s d) (elements_of s d k) ts
      by q (a-false e) = let z : ◌≡◌ {A = ℕ} 0 1 = cc in absurd (omega arith)
      by q (a-null e) = let z : ◌≡◌ {A = ℕ} 0 1 = cc in absurd (omega arith)
      by q (a-true e) = let z : ◌≡◌ {A = ℕ} 0 1 = cc in absurd (omega arith)
      by q (an-object e p) = let z : ◌≡◌ {A = ℕ} 0 1 = cc in absurd (omega arith)
      by q (an-array {ts = us} e p) = (e, rw (same-elements us ts q) at p)
      by q (a-number l h g) = let z : ◌≡◌ {A = ℕ} 0 1 = cc in absurd (omega arith)
      by q (a-string e g) = let z : ◌≡◌ {A = ℕ} 0 1 = cc in absurd (omega arith)

  pub string-at : {x : List ℕ} → At s d k (Json.string x)
      → (get_or s k 0 ≡ 34) × (paired (content_at s (k + 1)) ≡ x)
  string-at {x} a = by (at-shows a)
    where
      by : {e : ℕ} → Shows s k e (Json.string x) → (get_or s k 0 ≡ 34) × (paired (content_at s (k + 1)) ≡ x)
      by (a-string e g) = (e, g)

  -- digits or a minus sign come first, and the reader of numbers ends where the text of the number does
  pub number-at : {x : List ℕ} → At s d k (Json.number x)
      → (45 ≤ get_or s k 0) × (get_or s k 0 ≤ 57) × (text_to s k (number_at s k) ≡ x)
  number-at {x} a = by (at-shows a)
    where
      by : {e : ℕ} → Shows s k e (Json.number x) → (45 ≤ get_or s k 0) × (get_or s k 0 ≤ 57) × (text_to s k (number_at s k) ≡ x)
      by (a-number l h g) = (l, h, g)
