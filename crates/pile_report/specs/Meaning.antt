-- Document 01's sentence on reports, one field a fact.
-- Linked is document 01's own sentence, `IsLinked`: of valid records the check asks no more (`valid-link-exactly`).
use Rattle.refusal.specs.declared.Refusal.{Refusal}
use Rattle.std.specs.Prelude.{◌≡◌, true, List, ℕ, ◌-◌, ◌≤◌, ◌<◌, T, Err, Ok, Result}
use Rattle.pile.specs.Pile.{records_in, record_at}
use Rattle.pile.specs.Valid.{window_at}
use Rattle.pile.specs.Meaning.{GoodPile, ValidRecord, IsLinked, ZeroRand}
use Rattle.pile_runs.specs.Clash.{windows_clash}
use Rattle.pile_runs.specs.Convict.{Contradiction}
use Rattle.pile_report.specs.Report.{judged, joined}
use Rattle.pile_report.specs.Taking.{run_bytes, run_answers}

-- each record is valid and each after the first is linked, the first rand is all zero, and for some i < j the windows
-- contradict
pub record IsReport (pile answers : List ℕ) : Type 0 where
  pub all_valid : (k : ℕ) → k < records_in pile → ValidRecord pile answers k
  pub all-linked : (k : ℕ) → 0 < k → k < records_in pile → IsLinked (record_at pile (k - 1)) (record_at pile k)
  pub rand : ZeroRand pile
  pub i : ℕ
  pub j : ℕ
  pub order : i < j
  pub inside : j < records_in pile
  pub contradict : T (windows_clash (window_at pile i) (window_at pile j))

-- all that a report has except the pair, as the checks tell it. The pile is good, each record is judged valid with the
-- window of its own response, each after the first is linked, and the first rand is all zero. Of a pile of bytes it is
-- document 01's sentence without its last part (`sound-valid`, `sound-linked`, `sound-rand`).
pub record Sound (pile answers : List ℕ) : Type 0 where
  pub good : GoodPile pile answers
  pub all_valid : (k : ℕ) → k < records_in pile → judged pile answers k ≡ Ok (window_at pile k)
  pub all-joined : (k : ℕ) → k < records_in pile → joined pile k ≡ true

-- and no pair contradicts
pub record Clear (pile answers : List ℕ) : Type 0 where
  pub sound : Sound pile answers
  pub none : (i j : ℕ) → Contradiction (judged pile answers) (records_in pile) i j → ⊥

-- the answer on a sound pile: it names a pair, or it is 18
abbrev pub Decides : Result (ℕ × ℕ) (Refusal × ℕ) → Type 0
Decides (Ok (i, j)) = Unit {0}
Decides (Err (why, k)) = why.code ≡ 18

-- the run from record i to record j of a pile, cut out, is a report with its own answers
pub record ReportIn (pile answers : List ℕ) (i j : ℕ) : Type 0 where
  pub order : i ≤ j
  pub inside : j < records_in pile
  pub report : IsReport (run_bytes i j pile) (run_answers i j answers)

-- the answer names a pair
abbrev pub Accepts : Result (ℕ × ℕ) (Refusal × ℕ) → Type 0
Accepts (Ok (i, j)) = Unit {0}
Accepts (Err (why, k)) = ⊥
