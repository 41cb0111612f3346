-- Laws about readers in a row and about places, with a variable for what code holds and an equation that ties it: with
-- those about a choice, `search (picks, needs)` proves a return.
use Rattle.std.specs.Prelude.{None, Option, Some}
use Prim.Native.Nat.{ℕ, suc, ◌+◌, ◌≤◌, ◌<◌, ◌^◌}
use mathlib.Core.Path.{◌≡◌, refl, sym, ◌∙◌, ap}
use mathlib.Core.List.{List}
use native.Mathlib.Omega.{arith, by_contra}
use native.Mathlib.Nat.{le_of_suc-le-suc}
use lib.Dec.{T, ltb, ltb→lt}
use lib.ListN.{length, get_or, get_or-eq_default}
use mir.Syntax.{w64}
use mir.Val.{Fits}
use Rattle.laws.proofs.Picks.{choices}
use Rattle.json_tokens.specs.Scan.{then, then_step}
use Rattle.json_tokens.specs.declared.Step.{Step}
use Rattle.json_tokens.specs.declared.Step.TheVariants.{Wrong}

pub past_same : {e f : ℕ} → e ≡ f → Some e ≡ Some f
past_same e = ap Some e

-- a reader that fails, and one that goes on at e
pub then-bad : {x y : Option ℕ} (f : ℕ → Option ℕ) → x ≡ y → x ≡ None → None ≡ then y f
unfolding then
then-bad f p q = rw (sym p ∙ q) refl

pub then-past : {x y r : Option ℕ} {e : ℕ} (f : ℕ → Option ℕ) → x ≡ y → x ≡ Some e → r ≡ f e → r ≡ then y f
unfolding then
then-past f p q g = rw (sym p ∙ q) g

pub step-bad : {x y : Option ℕ} (f : ℕ → Step) → x ≡ y → x ≡ None → Wrong ≡ then_step y f
unfolding then_step
step-bad f p q = rw (sym p ∙ q) refl

pub step_past : {x y : Option ℕ} {r : Step} {e : ℕ} (f : ℕ → Step) → x ≡ y → x ≡ Some e → r ≡ f e → r ≡ then_step y f
unfolding then_step
step_past f p q g = rw (sym p ∙ q) g

-- a place whose byte is not 0 lies inside
pub over : {k at : ℕ} (s : List ℕ) → k ≡ get_or s at 0 → 0 < k → at < length s
over {k} {at} s e h = by_contra (suc at) (length s) (λ out. off (sym (get_or-eq_default s 0 (le_of_suc-le-suc out))))
  where
    off : 0 ≡ get_or s at 0 → ⊥
    off z = omega arith

pub inside : {k n at : ℕ} (s : List ℕ) → k ≡ get_or s at 0 → k ≡ n → T (ltb 0 n) → at < length s
inside {k} {n} s e h t = over s e (omega (arith, ltb→lt 0 n t))

-- so the next place is a number of 64 bits
pub next_fits : {k n : ℕ} (at : ℕ) (s : List ℕ) → k ≡ get_or s at 0 → k ≡ n → T (ltb 0 n) → length s < 2 ^ 64
    → Fits w64 (at + 1)
next_fits at s e h t b = let i = inside s e h t in record { fits = omega arith }

pub next-over : {k n : ℕ} (at : ℕ) (s : List ℕ) → k ≡ get_or s at 0 → n ≤ k → T (ltb 0 n) → length s < 2 ^ 64
    → Fits w64 (at + 1)
next-over {k} {n} at s e h t b = let i = over s e (omega (arith, ltb→lt 0 n t)) in record { fits = omega arith }

pub ruleset picks = (choices, past_same, then-bad, then-past, step-bad, step_past, next_fits, next-over)
