-- Which codes the check of a report tells: none above 18, and 18 exactly where the pile has all that a report has but
-- the pair. The codes of a record are not above 16, so that none is taken for 18.
use Rattle.std.specs.Prelude.{Err, Ok, Result}
use mathlib.Core.Path.{◌≡◌, ap}
use mathlib.Core.List.{List}
use mathlib.Core.Logic.{◌↔◌}
use Prim.Native.Nat.{ℕ, ◌≤◌}
use native.Mathlib.Omega.{arith}
use Rattle.refusal.specs.Refusal.{refusal}
use Rattle.refusal.specs.declared.Refusal.{Refusal}
use Rattle.pile.proofs.Codes.{refused-low}
use Rattle.pile_runs.specs.Clash.{valid}
use Rattle.pile_report.specs.Report.{judged, joined, PileRefused, Reports, report_number}
use Rattle.pile_report.specs.Report.{of-record, code-17, code-18, code-15, of-records}
use Rattle.pile_report.specs.Meaning.{Clear}
use Rattle.pile_report.proofs.Says.{not-not, report-once}
use Rattle.pile_report.proofs.Exactly.{is_set, windowed}
use Rattle.pile_report.proofs.Sound.{none-refused, none-loose}

module _ (pile answers : List ℕ) where
  pub refused-most : (why : Refusal) (k : ℕ) → PileRefused pile answers why k → why.code ≤ 18
  refused-most why k (code-15 bad) = omega arith
  refused-most why k (of-records g (of-record f e)) = omega (arith, refused-low pile answers k e)
  refused-most why k (of-records g (code-17 f h)) = omega arith
  refused-most why k (of-records g (code-18 f h none)) = omega arith

  told-clear : (why : Refusal) (k : ℕ) → PileRefused pile answers why k → why.code ≡ 18 → Clear pile answers
  told-clear why k (code-15 bad) n = absurd (omega (arith, n))
  told-clear why k (of-records g (of-record f e)) n = absurd (omega (arith, n, refused-low pile answers k e))
  told-clear why k (of-records g (code-17 f h)) n = absurd (omega (arith, n))
  told-clear why k (of-records g (code-18 f h none)) n =
      record {
        sound = record {
          good = g;
          all_valid = λ k l. windowed pile answers k (not-not (valid (judged pile answers k)) (f k l));
          all-joined = λ k l. (is_set (joined pile k)).0 (not-not (joined pile k) (h k l));
        };
        none = none;
      }

  pub clear-exactly : (r : Result (ℕ × ℕ) (Refusal × ℕ)) → Reports pile answers r → (report_number r ≡ 18) ↔ Clear pile answers
  clear-exactly r s = (from r s, λ c. ap report_number (report-once pile answers r (Err ((refusal 18), 0)) s (right c)))
    where
      from : (r : Result (ℕ × ℕ) (Refusal × ℕ)) → Reports pile answers r → report_number r ≡ 18 → Clear pile answers
      from (Ok (i, j)) s n = absurd (omega (arith, n))
      from (Err (why, k)) s n = told-clear why k s n

      right : Clear pile answers → Reports pile answers (Err ((refusal 18), 0))
      right c =
          let d = c.sound in
          of-records d.good (code-18 (none-refused pile answers d) (none-loose pile answers d) c.none)
