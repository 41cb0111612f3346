-- Of a sound pile the report check tells something: a pair, or 18.
use Rattle.refusal.specs.declared.Refusal.{Refusal}
use Rattle.std.specs.Prelude.{Err, None, Ok, Option, Result, Some}
use Prim.Native.Nat.{ℕ}
use mathlib.Core.List.{List}
use Rattle.pile.specs.Pile.{records_in}
use Rattle.pile_report.specs.Meaning.{Sound}
use Rattle.pile_report.specs.Report.{judged, Reports, code-18, of-records}
use Rattle.pile_report.proofs.Sound.{none-refused, none-loose}
use Rattle.pile_runs.specs.Convict.{Contradiction}
use Rattle.pile_runs.specs.Spans.{Answers}
use Rattle.pile_runs.proofs.Pair.{pair_of, pair-exists}
use Rattle.refusal.specs.Refusal.{refusal}

pub some-report : (pile answers : List ℕ) → Sound pile answers → (r : Result (ℕ × ℕ) (Refusal × ℕ)) × Reports pile answers r
some-report pile answers d =
    by (pair_of (judged pile answers) (records_in pile)) (pair-exists (judged pile answers) (records_in pile))
  where
    by : (x : Option (ℕ × ℕ)) → Answers (Contradiction (judged pile answers) (records_in pile)) x
        → (r : Result (ℕ × ℕ) (Refusal × ℕ)) × Reports pile answers r
    by (Some (a, b)) m = (Ok (a, b), (d.good, (none-refused pile answers d, none-loose pile answers d, m)))
    by None m = (
      Err ((refusal 18), 0),
      of-records d.good (code-18 (none-refused pile answers d) (none-loose pile answers d) m),
    )
