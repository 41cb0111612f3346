-- What the readers of tokens say of a text that is known: the half of the round trip that is about reading what was
-- written.
use Rattle.std.specs.Prelude.{Some}
use Prim.Native.Nat.{ℕ, ◌+◌, ◌<◌}
use mathlib.Core.Path.{◌≡◌, refl, sym, ◌∙◌, ap}
use mathlib.Core.Bool.{false}
use mathlib.Core.List.{List, ◌∷◌, ◌++◌, append_assoc}
use native.Mathlib.Nat.{add-zero}
use native.Mathlib.Omega.{arith}
use borrow.Author.Tests.{eq-eqb, ne_eqb}
use lib.ListN.{length, get_or, drop, length-append, length-drop}
use lib.Seq.{get_or-drop, drop-drop, drop-append_seam}
use Rattle.laws.specs.Pick.{pick, either}
use Rattle.json_tokens.specs.declared.Step.TheVariants.{More, End}
use Rattle.json_tokens.specs.Scan.{blank, past_while, after, past_colon}
use Rattle.json_tokens.proofs.While.{while-stop}

-- the text x stands at k
pub record Stands (s : List ℕ) (k : ℕ) (x : List ℕ) : Type 0 where
  pub rest : List ℕ
  pub text : drop k s ≡ x ++ rest

module _ {s : List ℕ} {k : ℕ} where
  pub stands-left : (x y : List ℕ) → Stands s k (x ++ y) → Stands s k x
  stands-left x y t = record { rest = y ++ t.rest; text = t.text ∙ append_assoc x y t.rest }

  pub stands-right : (x y : List ℕ) → Stands s k (x ++ y) → Stands s (k + length x) y
  stands-right x y t = record {
    rest = t.rest;
    text = sym (drop-drop (length x) k s) ∙ ap (drop (length x)) (t.text ∙ append_assoc x y t.rest)
        ∙ drop-append_seam x (y ++ t.rest);
  }

  pub stands_at_lem : {a : ℕ} {x : List ℕ} → Stands s k (a ∷ x) → get_or s k 0 ≡ a
  stands_at_lem {a} {x} t = ap (λ i. get_or s i 0) (sym (add-zero k)) ∙ sym (get_or-drop k s 0 0)
      ∙ ap (λ l. get_or l 0 0) t.text

  pub stands-inside : {a : ℕ} {x : List ℕ} → Stands s k (a ∷ x) → k < length s
  stands-inside {a} {x} t = omega (arith, length-drop k s, ap length t.text, length-append x t.rest)

  pub stands-next : {a : ℕ} {x : List ℕ} → Stands s k (a ∷ x) → Stands s (k + 1) x
  stands-next {a} {x} t = record { rest = t.rest; text = sym (drop-drop 1 k s) ∙ ap (drop 1) t.text }

-- no blank stands before what is no blank
pub no-blank : {s : List ℕ} {k a : ℕ} {x : List ℕ} → Stands s k (a ∷ x) → blank a ≡ false → past_while blank s k ≡ k
no-blank {s} {k} t h = sym (while-stop blank s k (stands-inside t) (rw (stands_at_lem t) h))

-- a colon, a comma and a closing bracket, with no blanks around them
pub colon-reads : {s : List ℕ} {k a : ℕ} {x : List ℕ} → Stands s k (58 ∷ a ∷ x) → blank a ≡ false
    → past_colon s k ≡ Some (k + 1)
unfolding past_colon pick either
colon-reads {s} {k} t h = rw (no-blank t refl, stands_at_lem t) (ap Some (no-blank (stands-next t) h))

pub close-reads : {s : List ℕ} {k c : ℕ} {x : List ℕ} → Stands s k (c ∷ x) → blank c ≡ false → after s c k ≡ End (k + 1)
unfolding after pick
close-reads {s} {k} {c} t h = rw (no-blank t h, stands_at_lem t) (simp (eq-eqb c c refl))

pub comma-reads : {s : List ℕ} {k a : ℕ} {x : List ℕ} (c : ℕ) → Stands s k (44 ∷ a ∷ x) → blank a ≡ false
    → (44 ≡ c → ⊥) → after s c k ≡ More (k + 1)
unfolding after pick either
comma-reads {s} {k} c t h g =
    rw (no-blank t refl, stands_at_lem t) (simp (ne_eqb 44 c g) (ap More (no-blank (stands-next t) h)))
