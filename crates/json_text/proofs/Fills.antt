-- Laws for the writer of texts.
use Rattle.std.specs.Prelude.{None, Some}
use Prim.Native.Nat.{ℕ, ◌+◌, ◌≤◌}
use mathlib.Core.Path.{◌≡◌, refl, sym, ◌∙◌}
use mathlib.Core.Bool.{true}
use mathlib.Core.List.{List, [], ◌++◌}
use native.Mathlib.Omega.{arith}
use lib.ListN.{length}
use Rattle.laws.specs.Pasted.{pasted, fronted}
use Rattle.laws.proofs.Filled.{Filled, filled-first, filled_next, filled-fit, filled-last}
use Rattle.json_strings.specs.Text.{content_at}
use Rattle.json_text.specs.Octets.{utf8, Text, octets, none, onto, text_of, plain, size_of}
use Rattle.json_text.specs.declared.Letter.{Letter}
use Rattle.json_text.specs.declared.Letter.TheVariants.{Is, Stop, Lone}
use Rattle.json_text.specs.Facts.{good, Reads, LetterOf}

-- The state of the writer at the character k.
pub record Filling (E : List ℕ) (s : List ℕ) (k : ℕ) (was : List ℕ) (n : ℕ) (out : List ℕ) : Type 0 where
  pub rest : List ℕ
  pub reads : text_of (content_at s k) ≡ octets rest
  pub filled : Filled E rest was n out

is-octets : (t : Text) → good t ≡ true → t ≡ octets (plain t)
is-octets (octets x) e = refl
is-octets none e = cc

pub filling-first : (s : List ℕ) (k : ℕ) (was : List ℕ) → good (text_of (content_at s k)) ≡ true
    → length (plain (text_of (content_at s k))) ≤ length was
    → Filling (plain (text_of (content_at s k))) s k was 0 was
filling-first s k was g h =
    record { rest = plain (text_of (content_at s k)); reads = is-octets _ g; filled = filled-first _ _ h }

next-rest : (x : List ℕ) (t : Text) {l : List ℕ} → onto x t ≡ octets l → (t ≡ octets (plain t)) × (l ≡ x ++ plain t)
next-rest x (octets y) e = (refl, cc)
next-rest x none e = let q : ◌≡◌ {A = ℕ} 0 1 = cc in absurd (omega arith)

module _ {E s was out : List ℕ} {k n c j : ℕ} (f : Filling E s k was n out) (q : Reads s k c j) where
  next : (text_of (content_at s j) ≡ octets (plain (text_of (content_at s j))))
      × (f.rest ≡ utf8 c ++ plain (text_of (content_at s j)))
  next = next-rest (utf8 c) (text_of (content_at s j)) (sym q.text ∙ f.reads)

  pub filling-fits : n + length (utf8 c) ≤ length out
  filling-fits = filled-fit (utf8 c) _ f.filled next.1

  pub filling-next : {to : List ℕ} {m : ℕ} → to ≡ pasted out n (utf8 c) → m ≡ length (utf8 c) → Filling E s j was
      (n + m) to
  filling-next h e =
      rw e (record {
        rest = plain (text_of (content_at s j));
        reads = next.0;
        filled = filled_next (utf8 c) _ f.filled next.1 h;
      })

module _ {E s was out : List ℕ} {k n : ℕ} (f : Filling E s k was n out) where
  pub filling-end : text_of (content_at s k) ≡ octets [] → out ≡ fronted E was
  filling-end e = let z : f.rest ≡ [] = cc f.reads in filled-last (rw z at f.filled)

  pub filling-never : text_of (content_at s k) ≡ none → ⊥
  filling-never e = let z : ◌≡◌ {A = ℕ} 0 1 = cc f.reads in omega arith

  -- no character is left
  pub filling-over : (r : Letter) → LetterOf s k r → ((c j : ℕ) → r ≡ Is c j → ⊥) → out ≡ fronted E was
  filling-over (Is c j) e h = absurd (h c j refl)
  filling-over Stop e h = filling-end e
  filling-over Lone e h = absurd (filling-never e)

-- ---- The ways out of `put_text`.
pub put-none : (t : Text) (out : List ℕ) → None ≡ size_of 0 t → out ≡ fronted (plain t) out
put-none (octets x) out e = let z : ◌≡◌ {A = ℕ} 0 1 = cc in absurd (omega arith)
put-none none out e = refl

pub put-good : (t : Text) {n : ℕ} → Some n ≡ size_of 0 t → good t ≡ true
put-good (octets x) e = refl
put-good none e = let z : ◌≡◌ {A = ℕ} 0 1 = cc in absurd (omega arith)
