-- The runs of a pile that convict, and the contradictions of a report (document 01, "Piles and reports").
-- A pile is here what is known of its records: v k is the verdict on record k, and linked k says whether it is linked
-- to the one before it.
use Rattle.check_response.specs.declared.Window.{Window}
use Rattle.refusal.specs.declared.Refusal.{Refusal}
use Rattle.std.specs.Prelude.{Bool, false, List, ℕ, ◌≤◌, ◌<◌, T, get_or, Err, Result}
use Rattle.laws.specs.Pairs.{Hits}
use Rattle.refusal.specs.Refusal.{passed}
use Rattle.pile_runs.specs.Clash.{valid, contradicting}

-- what an array holds at a place. Nothing is read past its end; there these say a refused verdict, and no link.
abbrev pub verdict_in : List (Result Window Refusal) → ℕ → Result Window Refusal
verdict_in vs k = get_or vs k (Err passed)

abbrev pub flag_in : List Bool → ℕ → Bool
flag_in ls k = get_or ls k false

-- each record from a to b is valid, and each after a is linked
pub record Clean (v : ℕ → Result Window Refusal) (linked : ℕ → Bool) (a b : ℕ) : Type 0 where
  pub all_valid : (k : ℕ) → a ≤ k → k ≤ b → T (valid (v k))
  pub all-linked : (k : ℕ) → a < k → k ≤ b → T (linked k)

-- the run from a to b, of a pile of n records, convicts by itself: it is clean, and its records i and j, i before j,
-- contradict
pub record Convicts (v : ℕ → Result Window Refusal) (linked : ℕ → Bool) (n a b : ℕ) : Type 0 where
  pub inside : b < n
  pub clean : Clean v linked a b
  pub i : ℕ
  pub j : ℕ
  pub from : a ≤ i
  pub order : i < j
  pub to : j ≤ b
  pub clash : T (contradicting (v i) (v j))

-- of a report: records i < j of the first n contradict
abbrev pub Contradiction : (ℕ → Result Window Refusal) → ℕ → ℕ → ℕ → Type 0
Contradiction v n = Hits (λ i j. T (contradicting (v i) (v j))) n
