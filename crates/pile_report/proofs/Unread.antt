-- The report check and the cutter do not read MINT, MAXT and the key (request P9): of two good piles of which the
-- verdicts differ in MINT and MAXT at the most, and the links in nothing, the answers are the same. The key stands in
-- no verdict, so that there is nothing to say of it.
use Rattle.refusal.specs.declared.Refusal.{Refusal}
use Rattle.std.specs.Prelude.{Err, None, Ok, Option, Result, Some}
use Prim.Native.Nat.{ℕ, ◌<◌}
use mathlib.Core.Path.{◌≡◌, subst}
use mathlib.Core.List.{List}
use native.Mathlib.Omega.{arith}
use lib.ListN.{length}
use Rattle.pile.specs.Pile.{records_in}
use Rattle.pile.specs.Links.{linked_of}
use Rattle.pile.specs.Meaning.{GoodPile}
use Rattle.pile_runs.specs.Alike.{Alike}
use Rattle.pile_runs.specs.Convict.{Convicts}
use Rattle.pile_runs.specs.Spans.{Answers}
use Rattle.pile_runs.proofs.SamePile.{alike-answer}
use Rattle.pile_report.specs.Report.{judged, joined, Says, Reports}
use Rattle.pile_report.specs.Taking.{ConvictsIn, code-15, code-19, code-18, Takes}
use Rattle.pile_report.proofs.Runs.{takes-once}
use Rattle.pile_report.proofs.SameArrays.{says-alike}
use Rattle.pile_report.proofs.Says.{good-says, says_of, report-once}

-- two good piles of as many records, whose verdicts differ in MINT and MAXT at the most
module _
    (pile answers other others : List ℕ) (good : GoodPile pile answers) (good-other : GoodPile other others)
    (count : records_in pile ≡ records_in other)
    (alike : (k : ℕ) → k < records_in pile → Alike (judged pile answers k) (judged other others k)) where
  as_long : length pile ≡ length other
  as_long = omega (arith, good.pile-whole.exact, good-other.pile-whole.exact)

  module _ (links : (k : ℕ) → 0 < k → k < records_in pile → linked_of pile k ≡ linked_of other k) where
    run_moved : (r : Option (ℕ × ℕ)) → Answers (ConvictsIn pile answers) r → Answers (ConvictsIn other others) r
    run_moved r a =
        subst (λ (n : ℕ). Answers (Convicts (judged other others) (linked_of other) n) r) count
        (alike-answer (judged pile answers) (judged other others) (linked_of pile) (linked_of other) (records_in pile)
        alike links r a)

    takes_moved : (room : ℕ) (r : Result (ℕ × ℕ) Refusal) → Takes pile answers room r → Takes other others room r
    takes_moved room (Ok (i, j)) t = (good-other, omega (arith, as_long, t.1), run_moved (Some (i, j)) t.2)
    takes_moved room (Err why) (code-15 bad) = absurd (bad good)
    takes_moved room (Err why) (code-19 g short) = code-19 good-other (omega (arith, as_long))
    takes_moved room (Err why) (code-18 g fits none) =
        code-18 good-other (omega (arith, as_long)) (run_moved None none)

    -- the cutter takes the same run, or none from either
    pub same_taken : (room : ℕ) (r s : Result (ℕ × ℕ) Refusal) → Takes pile answers room r → Takes other others room s → r ≡ s
    same_taken room r s p q = takes-once other others room r s (takes_moved room r p) q

  -- and where the flags are the same too, the first rand's among them, the check of a report answers the same
  pub same-reported : ((k : ℕ) → k < records_in pile → joined pile k ≡ joined other k)
      → (r s : Result (ℕ × ℕ) (Refusal × ℕ)) → Reports pile answers r → Reports other others s → r ≡ s
  same-reported flags r s p q =
      report-once other others r s
      (good-says other others good-other r
      (subst (λ (n : ℕ). Says (judged other others) (joined other) n r) count
      (says-alike (judged pile answers) (judged other others) (joined pile) (joined other) (records_in pile)
      alike flags r (says_of pile answers good r p))))
      q
