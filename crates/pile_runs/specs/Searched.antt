-- What the private functions of the search promise each other about the runs of a pile. Nothing public is stated by it.
use Rattle.check_response.specs.declared.Window.{Window}
use Rattle.refusal.specs.declared.Refusal.{Refusal}
use Rattle.std.specs.Prelude.{Bool, ℕ, ◌+◌, ◌<◌, T, None, Option, Result, Some}
use Rattle.pile_runs.specs.Clash.{contradicting}
use Rattle.pile_runs.specs.Convict.{Clean}

-- the run from a to b is clean, and its two ends contradict
pub record Exposes (v : ℕ → Result Window Refusal) (linked : ℕ → Bool) (a b : ℕ) : Type 0 where
  pub clean : Clean v linked a b
  pub clash : T (contradicting (v a) (v b))

-- i is the first place such that Q holds of i and i + d and both are below n
pub record StartsAt (Q : ℕ → ℕ → Type 0) (n d i : ℕ) : Type 0 where
  pub within : i + d < n
  pub passed : (k : ℕ) → k < i → Q k (k + d) → ⊥
  pub here : Q i (i + d)

-- the first such place, or that there is none
abbrev pub FirstStart : (ℕ → ℕ → Type 0) → ℕ → ℕ → Option ℕ → Type 0
FirstStart Q n d (Some i) = StartsAt Q n d i
FirstStart Q n d None = (k : ℕ) → k + d < n → Q k (k + d) → ⊥
