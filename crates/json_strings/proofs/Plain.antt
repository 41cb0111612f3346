-- What the readers of strings say of a string that is known, and has no escapes.
use Rattle.std.specs.Prelude.{Some}
use Prim.Native.Nat.{ℕ, ◌+◌, ◌≤◌, ◌<◌}
use mathlib.Core.Path.{◌≡◌, refl, sym, ◌∙◌, ap}
use mathlib.Core.List.{List, [], ◌∷◌, ◌++◌}
use native.Mathlib.Omega.{arith}
use borrow.Author.Tests.{ne_eqb, lt-ltb, le-ltb}
use lib.ListN.{length}
use Rattle.laws.specs.Pick.{pick}
use Rattle.json_tokens.specs.Walk.{walked}
use Rattle.json_tokens.proofs.Stands.{Stands, stands_at_lem, stands-next}
use Rattle.json_tokens.proofs.Turns.{walked_more, walked_end}
use Rattle.json_strings.specs.declared.Unit.TheVariants.{Code, Close}
use Rattle.json_strings.specs.Text.{unit_at, step_of, unit_step, string_at, content_at}
use Rattle.json_strings.proofs.Ahead.{forth-unit}
use Rattle.json_strings.proofs.Content.{content-code, content-close}
use Rattle.json_strings.proofs.Runs.{unit-quoted}

-- a character that stands for itself
pub record Plain (c : ℕ) : Type 0 where
  pub low : 32 ≤ c
  pub high : c < 128
  pub quote : c ≡ 34 → ⊥
  pub slash : c ≡ 92 → ⊥

pub data Each : List ℕ → Type 0 where
  none : Each []
  one : {c : ℕ} {l : List ℕ} → Plain c → Each l → Each (c ∷ l)

unit-plain : {s : List ℕ} {k c : ℕ} {x : List ℕ} → Plain c → Stands s k (c ∷ x) → unit_at s k ≡ Code c (k + 1)
unfolding unit_at pick
unit-plain {s} {k} {c} p t =
    rw (stands_at_lem t) (simp (
      ne_eqb c 34 p.quote,
      ne_eqb c 92 p.slash,
      le-ltb c 32 p.low,
      lt-ltb c 128 p.high,
    ))

unit-quote : {s : List ℕ} {k : ℕ} {x : List ℕ} → Stands s k (34 ∷ x) → unit_at s k ≡ Close (k + 1)
unit-quote {s} {k} t = unit-quoted s k refl (stands_at_lem t)

-- characters that stand for themselves, and the closing quote
chars-end : {s : List ℕ} {k : ℕ} (l x : List ℕ) → Each l → Stands s k (l ++ 34 ∷ x)
    → walked (length s) (unit_step s) k ≡ Some (k + length l + 1)
unfolding unit_step
chars-end {s} {k} [] x none t = sym (walked_end (length s) (unit_step s) k refl (ap step_of (unit-quote t)))
    ∙ ap Some (omega arith)
chars-end {s} {k} (c ∷ l) x (one p e) t =
    sym (walked_more (length s) (unit_step s) (forth-unit s) k refl (ap step_of (unit-plain p t)))
    ∙ chars-end {k = k + 1} l x e (stands-next t) ∙ ap Some (omega arith)

pub string-content : {s : List ℕ} {k : ℕ} (l x : List ℕ) → Each l → Stands s k (l ++ 34 ∷ x) → content_at s k ≡ l
string-content {s} {k} [] x none t = content-close s k refl (unit-quote t)
string-content {s} {k} (c ∷ l) x (one p e) t =
    content-code s k refl (unit-plain p t) ∙ ap (λ m. c ∷ m) (string-content {k = k + 1} l x e (stands-next t))

pub string-reads : {s : List ℕ} {k : ℕ} (l x : List ℕ) → Each l → Stands s k (34 ∷ (l ++ 34 ∷ x))
    → string_at s k ≡ Some (k + length l + 2)
unfolding string_at pick
string-reads {s} {k} l x e t = rw (stands_at_lem t) (chars-end l x e (stands-next t) ∙ ap Some (omega arith))
