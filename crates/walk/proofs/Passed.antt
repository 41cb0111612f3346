-- Answers that are an error just where a refusal has a number.
use Rattle.std.specs.Prelude.{Err, Ok, Result}
use Prim.Native.Nat.{ℕ, ◌<◌}
use mathlib.Core.Path.{◌≡◌, refl, ap, ◌∙◌}
use mathlib.Core.Bool.{cond}
use native.Mathlib.Omega.{arith}
use lib.Dec.{T, eqb, ltb, ltb→lt}
use borrow.Author.Tests.{eq-eqb, ne_eqb}
use Rattle.refusal.specs.Refusal.{passes, passed, refusal}
use Rattle.refusal.specs.declared.Refusal.{Refusal}
use Rattle.refusal.proofs.Passing.{refuses, quiet-passes}

numbered : {x : Refusal} {n : ℕ} → x ≡ refusal n → T (ltb 0 n) → x.code ≡ 0 → ⊥
numbered {x} {n} e p z = go (ltb→lt 0 n p) (ap (λ (r : Refusal). r.code) e)
  where
    go : 0 < n → x.code ≡ n → ⊥
    go h c = omega (arith, z)

-- of a row of checks, whose first refusal is a: code has it as x, or comes to the end of the row
pub refused-as : {x : Refusal} (a : Refusal) {n : ℕ} → x ≡ refusal n → T (ltb 0 n) → x ≡ a → Err x ≡ passes a
refused-as a e p f = refuses (numbered e p) ∙ ap passes f

pub passed-as : (a : Refusal) → passed ≡ a → Ok tt ≡ passes a
passed-as a f = quiet-passes passed refl ∙ ap passes f

-- of a call, which answers g where the refusal a has no number: code has a as x, or has g as k
module _ {A : Type 0} (a : Refusal) (g : A) where
  pub refused : {x : Refusal} → x ≡ a → (x.code ≡ 0 → ⊥) → ◌≡◌ {A = Result A Refusal} (Err x) (cond (eqb a.code 0) (Ok g) (Err a))
  refused e n = simp (ne_eqb a.code 0 (λ q. n (ap (λ (r : Refusal). r.code) e ∙ q))) (ap Err e)

  pub given : {k : A} → a.code ≡ 0 → k ≡ g → ◌≡◌ {A = Result A Refusal} (Ok k) (cond (eqb a.code 0) (Ok g) (Err a))
  given z e = simp (eq-eqb a.code 0 z) (ap Ok e)
