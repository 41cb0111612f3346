-- No reader of strings goes back, and every turn, which reads a character, goes forth.
use Prim.Native.Nat.{ℕ, suc, ◌+◌, ◌≤◌, ◌<◌}
use mathlib.Core.Path.{◌≡◌, refl}
use mathlib.Core.Bool.{true}
use mathlib.Core.List.{List}
use native.Mathlib.Nat.{le_of_suc-le-suc}
use native.Mathlib.Omega.{arith, by_contra}
use lib.Dec.{T}
use lib.ListN.{length, get_or-eq_default}
use Rattle.laws.specs.Pick.{pick}
use Rattle.json_tokens.proofs.Ahead.{of-pick}
use Rattle.json_tokens.proofs.Turns.{Ahead, Forth, ahead-walked}
use Rattle.json_strings.specs.declared.Unit.{Unit}
use Rattle.json_strings.specs.declared.Unit.TheVariants.{Code, Close, Ill}
use Rattle.json_strings.specs.Text.{hex_at, escape_at, long_at, wide_at, unit_at, step_of, unit_step, string_at}

-- a character ends further on
abbrev Onto : ℕ → Unit → Type 0
Onto k (Code c j) = k < j
Onto k (Close j) = k < j
Onto k Ill = T true

onto-hex : (s : List ℕ) (k at : ℕ) → k < at → Onto k (hex_at s at)
unfolding hex_at
onto-hex s k at h =
    of-pick (Onto k) _ tt (of-pick (Onto k) _ tt (of-pick (Onto k) _ tt (of-pick (Onto k) _ tt (omega arith))))

onto-escape : (s : List ℕ) (k at : ℕ) → k < at → Onto k (escape_at s at)
unfolding escape_at
onto-escape s k at h = of-pick (Onto k) _ (onto-hex s k (at + 1) (omega arith)) (of-pick (Onto k) _ tt (omega arith))

onto-long : (s : List ℕ) (k : ℕ) → Onto k (long_at s k)
unfolding long_at
onto-long s k =
    of-pick (Onto k) _ (of-pick (Onto k) _ (omega arith)
    (of-pick (Onto k) _ (of-pick (Onto k) _ (omega arith) tt) tt)) tt

onto-wide : (s : List ℕ) (k : ℕ) → Onto k (wide_at s k)
unfolding wide_at
onto-wide s k = of-pick (Onto k) _ tt (of-pick (Onto k) _ (of-pick (Onto k) _ (omega arith) (onto-long s k)) tt)

pub onto-unit : (s : List ℕ) (k : ℕ) → Onto k (unit_at s k)
unfolding unit_at
onto-unit s k =
    of-pick (Onto k) _ (omega arith) (of-pick (Onto k) _ (onto-escape s k (k + 1) (omega arith))
    (of-pick (Onto k) _ tt (of-pick (Onto k) _ (omega arith) (onto-wide s k))))

-- past the end stands no character
ends : (s : List ℕ) (k : ℕ) → length s ≤ k → unit_at s k ≡ Ill
unfolding unit_at pick
ends s k h = rw (get_or-eq_default s 0 h) refl

no_code : {c j : ℕ} → Code c j ≡ Ill → ⊥
no_code e = let z : ◌≡◌ {A = ℕ} 0 1 = cc in omega arith

pub forth-unit : (s : List ℕ) (k : ℕ) → Forth (length s) k (unit_step s k)
unfolding unit_step
forth-unit s k = by (unit_at s k) (onto-unit s k) (λ h. ends s k h)
  where
    by : (u : Unit) → Onto k u → (length s ≤ k → u ≡ Ill) → Forth (length s) k (step_of u)
    by (Code c j) o e = (o, by_contra (suc k) (length s) (λ out. no_code (e (le_of_suc-le-suc out))))
    by (Close j) o e = omega arith
    by Ill o e = tt

pub ahead-string : (s : List ℕ) (k : ℕ) → Ahead k (string_at s k)
unfolding string_at
ahead-string s k = of-pick (Ahead k) _ (ahead-walked (length s) (unit_step s) (forth-unit s) (k + 1) k (omega arith)) tt
