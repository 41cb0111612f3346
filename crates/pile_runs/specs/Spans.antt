-- What the answer of a search for two places says.
use Rattle.std.specs.Prelude.{ℕ, None, Option, Some}
use Rattle.laws.specs.Pairs.{IsLeast}

-- of all places of which P holds, these two are the closest together, and of those as close the first; None says
-- that P holds of no two
abbrev pub Answers : (ℕ → ℕ → Type 0) → Option (ℕ × ℕ) → Type 0
Answers P (Some (a, b)) = IsLeast P a b
Answers P None = (a b : ℕ) → P a b → ⊥

-- two places of which P holds
pub record SomePair (P : ℕ → ℕ → Type 0) : Type 0 where
  pub a : ℕ
  pub b : ℕ
  pub holds : P a b

-- document 01's number of an answer: 0 with two places, or 18
abbrev pub span_number : Option (ℕ × ℕ) → ℕ
span_number (Some (a, b)) = 0
span_number None = 18
