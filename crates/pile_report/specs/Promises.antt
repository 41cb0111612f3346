-- What private functions promise each other. Nothing public is stated by it.
use Rattle.check_response.specs.declared.Window.{Window}
use Rattle.refusal.specs.declared.Refusal.{Refusal}
use Rattle.std.specs.Prelude.{◌≡◌, Bool, false, cond, ◌&&◌, List, ℕ, ◌-◌, ◌<◌, eqb, Err, None, Ok, Option, Result, Some}
use Rattle.laws.specs.Least.{IsFirst, Never}
use Rattle.pile_runs.specs.Clash.{valid}
use Rattle.pile_runs.specs.Convict.{verdict_in}
use Rattle.pile_report.specs.Report.{refused}

-- the first place below n at which p holds, or that there is none
abbrev pub FirstAt : (ℕ → Bool) → ℕ → Option ℕ → Type 0
FirstAt p n (Some k) = IsFirst p n k
FirstAt p n None = Never p n

-- the results that may be of one judge's call at each of the first n places are v there
abbrev pub Judges : (ℕ → Result Window Refusal → Type 0) → (ℕ → Result Window Refusal) → ℕ → Type 0
Judges post v n = (k : ℕ) → k < n → (r : Result Window Refusal) → post k r → r ≡ v k

-- of n records with the verdicts v: they, where none is refused, or the refusal and the place of the first that is
abbrev pub Passes : (ℕ → Result Window Refusal) → ℕ → Result (List (Result Window Refusal)) (Refusal × ℕ) → Type 0
Passes v n (Ok vs) = Never (refused (verdict_in vs)) n × ((k : ℕ) → k < n → verdict_in vs k ≡ v k)
Passes v n (Err (why, k)) = IsFirst (refused v) n k × (v k ≡ Err why)

-- of records with the verdicts v and the links l: record k and the one before it are valid, and it is linked
abbrev pub between : (ℕ → Result Window Refusal) → (ℕ → Bool) → ℕ → Bool
between v l k = cond (eqb k 0) false (valid (v (k - 1)) && (valid (v k) && l k))
