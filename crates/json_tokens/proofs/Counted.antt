-- Laws about bytes that are counted where they pass a test: if all were counted, each passes.
use Prim.Native.Nat.{ℕ, zero, suc, ◌+◌, ◌≤◌, ◌<◌}
use mathlib.Core.Path.{◌≡◌, refl, ◌∙◌, ap}
use mathlib.Core.Bool.{Bool, true, false}
use mathlib.Core.List.{List}
use native.Mathlib.Omega.{arith}
use lib.Dec.{eqb}
use lib.ListN.{length, get_or}
use borrow.Author.Tests.{eqb-true, eqb-false}
use Rattle.laws.specs.Pick.{pick}
use Rattle.json_tokens.specs.Scan.{Passes, past_while}
use Rattle.json_tokens.proofs.While.{while-more}

-- of i bytes n pass
pub record Counted (p : ℕ → Bool) (s : List ℕ) (at n i : ℕ) : Type 0 where
  pub most : n ≤ i
  pub passed : n ≡ i → Passes p s at i

module _ {p : ℕ → Bool} {s : List ℕ} {at : ℕ} where
  pub counted_none : Counted p s at 0 0
  counted_none = record { most = omega arith; passed = λ e j h. absurd (omega arith) }

  pub counted_next : {n i m : ℕ} → Counted p s at n i → m ≡ pick (p (get_or s (at + i) 0)) 1 0
      → Counted p s at (n + m) (i + 1)
  unfolding pick
  counted_next {n} {i} {m} t e = by (p (get_or s (at + i) 0)) refl e
    where
      last : (j : ℕ) (b : Bool) → eqb j i ≡ b → j < i + 1 → p (get_or s (at + i) 0) ≡ true → Passes p s at i
          → p (get_or s (at + j) 0) ≡ true
      last j true q h u g = rw (eqb-true j i q) u
      last j false q h u g = let f = eqb-false j i q in g j (omega (arith, f))

      by : (b : Bool) → p (get_or s (at + i) 0) ≡ b → m ≡ pick b 1 0 → Counted p s at (n + m) (i + 1)
      by true u g = record {
        most = omega (arith, t.most);
        passed = λ q j h. last j (eqb j i) refl h u (t.passed (omega arith));
      }
      by false u g = record { most = omega (arith, t.most); passed = λ q. absurd (omega (arith, t.most)) }

-- a run goes on past bytes that pass
module _ (p : ℕ → Bool) (s : List ℕ) (at : ℕ) where
  pub while-over : (n : ℕ) → at + n ≤ length s → Passes p s at n → past_while p s (at + n) ≡ past_while p s at
  while-over zero h g = ap (past_while p s) (omega arith)
  while-over (suc n) h g =
      ap (past_while p s) (omega arith) ∙ while-more p s (at + n) (omega arith) (g n (omega arith))
      ∙ while-over n (omega arith) (λ j i. g j (omega arith))
