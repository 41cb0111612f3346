-- How many bytes the records of a text have, and what is read of them at the front of a buffer.
use Rattle.std.specs.Prelude.{Err, None, Ok, Option, Result, Some}
use Prim.Native.Nat.{ℕ, suc, ◌*◌, ◌≤◌}
use mathlib.Core.Path.{◌≡◌, refl, sym, ◌∙◌, ap}
use mathlib.Core.Bool.{Bool, true, false}
use mathlib.Core.List.{List, [], ◌∷◌}
use native.Mathlib.Omega.{arith}
use borrow.Author.Tests.{ltb-false}
use lib.Dec.{eqb, ltb}
use lib.ListN.{length, take, length-take}
use lib.Seq.{take_at}
use mir.Syntax.{w64}
use mir.Val.{Fits}
use Rattle.laws.specs.Pasted.{fronted}
use Rattle.laws.specs.Pick.{pick}
use Rattle.laws.specs.Written.{written}
use Rattle.refusal.specs.Refusal.{refusal}
use Rattle.refusal.specs.declared.Refusal.{Refusal}
use Rattle.report_read.specs.Entry.{these, unread, elements_of, all_of, entries_at, list_place, entries_from, entries_of}
use Rattle.report_read.specs.Read.{any_big, read_of, read_number, pile_bytes}
use Rattle.report_read.proofs.Piles.{records-length}
use Rattle.report_write.proofs.Piles.{refused-left}
use Rattle.pile_signed.specs.OwnAnswers.{own_answers}
use Rattle.report_text.specs.Forwarded.{CutsText, Forwards, pile_of, forwarded_number, forwarded_bytes}

-- as many entries as elements
entries-length : (s : List ℕ) (first : Bool) (ks : List ℕ) → length (entries_at s first ks) ≡ length ks
unfolding entries_at
entries-length s first [] = refl
entries-length s first (k ∷ ks) = ap suc (entries-length s false ks)

inverted : (b₁ b₂ b₃ b₄ : Bool) (m n : ℕ)
    → pick b₁ (Err (refusal 25))
    (pick b₂ (Err (refusal 25)) (pick b₃ (Err (refusal 25)) (pick b₄ (Err (refusal 19)) (Ok m))))
    ≡ Ok n
    → (b₂ ≡ false) × ((b₃ ≡ false) × (m ≡ n))
unfolding pick
inverted true b₂ b₃ b₄ m n e = let z : ◌≡◌ {A = ℕ} 0 1 = cc in absurd (omega arith)
inverted false true b₃ b₄ m n e = let z : ◌≡◌ {A = ℕ} 0 1 = cc in absurd (omega arith)
inverted false false true b₄ m n e = let z : ◌≡◌ {A = ℕ} 0 1 = cc in absurd (omega arith)
inverted false false false true m n e = let z : ◌≡◌ {A = ℕ} 0 1 = cc in absurd (omega arith)
inverted false false false false m n e = (refl, (refl, cc))

from-text : (s : List ℕ) (v : ℕ) (b : Bool) (room n : ℕ) → all_of s true (elements_of s 14 v) ≡ b
    → read_of (pick b (these (entries_at s true (elements_of s 14 v))) unread) room ≡ Ok n
    → (n ≤ 16) × (length (pile_bytes (pick b (these (entries_at s true (elements_of s 14 v))) unread)) ≡ n * 4096)
unfolding pick read_of pile_bytes
from-text s v true room n a e =
    let i = inverted (eqb (length (entries_at s true (elements_of s 14 v))) 0)
    (ltb 16 (length (entries_at s true (elements_of s 14 v)))) (any_big (entries_at s true (elements_of s 14 v)))
    (ltb room (length (entries_at s true (elements_of s 14 v)) * 4096))
    (length (entries_at s true (elements_of s 14 v))) n e in
    let l = entries-length s true (elements_of s 14 v) in
    let r = records-length s true (elements_of s 14 v) a i.1.0 in
    let m = ltb-false 16 (length (entries_at s true (elements_of s 14 v))) i.0 in
    let k = i.1.1 in
    (omega arith, r ∙ omega arith)
from-text s v false room n a e = let z : ◌≡◌ {A = ℕ} 0 1 = cc in absurd (omega arith)

from_place : (s : List ℕ) (p : Option ℕ) (room n : ℕ) → read_of (entries_from s p) room ≡ Ok n
    → (n ≤ 16) × (length (pile_bytes (entries_from s p)) ≡ n * 4096)
unfolding entries_from read_of
from_place s (Some v) room n e = from-text s v (all_of s true (elements_of s 14 v)) room n refl e
from_place s None room n e = let z : ◌≡◌ {A = ℕ} 0 1 = cc in absurd (omega arith)

module _ {x : Result ℕ Refusal} {n : ℕ} (text : List ℕ) (e : x ≡ read_of (entries_of text) 65536) (h : x ≡ Ok n) where
  long : (n ≤ 16) × (length (pile_bytes (entries_of text)) ≡ n * 4096)
  unfolding entries_of
  long = from_place text (list_place text) 65536 n (sym e ∙ h)

  pub few-fit : Fits w64 (n * 4096)
  few-fit = let few = long.0 in record { fits = omega arith }

  -- what stands at the front of the buffer is the pile
  pub pile-front : {to : List ℕ} (was : List ℕ) → to ≡ written (read_number x) (pile_bytes (entries_of text)) was
      → take (n * 4096) to ≡ pile_bytes (entries_of text)
  pile-front {to} was w =
      let k : to ≡ fronted (pile_bytes (entries_of text)) was = rw h at w in
      ap (take (n * 4096)) k ∙ take_at (pile_bytes (entries_of text)) _ (n * 4096) long.1

  pub front-count : {to : List ℕ} (was : List ℕ) → to ≡ written (read_number x) (pile_bytes (entries_of text)) was
      → n * 4096 ≡ length (take (n * 4096) to)
  front-count was w = sym (ap length (pile-front was w) ∙ long.1)

  pub front-inside : {to : List ℕ} (was : List ℕ) → to ≡ written (read_number x) (pile_bytes (entries_of text)) was
      → n * 4096 ≤ length to
  front-inside {to} was w = omega (arith, front-count was w, length-take (n * 4096) to)

  -- the answer on the pile is the answer on the text
  pub text-cut : {r : Result (ℕ × ℕ × ℕ) Refusal} {q o : List ℕ} (answers out : List ℕ) → q ≡ pile_bytes (entries_of text)
      → CutsText q answers (length out) r × (o ≡ written (forwarded_number r) (forwarded_bytes r q) out)
      → Forwards text answers (length out) r × (o ≡ written (forwarded_number r) (forwarded_bytes r (pile_of text)) out)
  text-cut answers out k p = (rw (sym e ∙ h) (rw k at p.0), rw k at p.1)

  -- the same where the answers are the pile's own
  pub text-cut-own : {r : Result (ℕ × ℕ × ℕ) Refusal} {q o : List ℕ} (out : List ℕ) → q ≡ pile_bytes (entries_of text)
      → CutsText q (own_answers q) (length out) r × (o ≡ written (forwarded_number r) (forwarded_bytes r q) out)
      → Forwards text (own_answers (pile_of text)) (length out) r
      × (o ≡ written (forwarded_number r) (forwarded_bytes r (pile_of text)) out)
  text-cut-own out k p = (rw (sym e ∙ h) (rw k at p.0), rw k at p.1)

-- a text that is refused
pub text-refused : {x : Result ℕ Refusal} {why : Refusal} (text answers out : List ℕ) → x ≡ read_of (entries_of text) 65536
    → x ≡ Err why
    → Forwards text answers (length out) (Err why) × (out ≡ written why.code [] out)
text-refused {why = why} text answers out e h = (rw (sym e ∙ h) refl, refused-left why out)
