-- Each operation's contract settles its result, and what the cutter leaves in the lent buffer.
use mathlib.Core.Path.{refl, ap}
use mathlib.Core.List.{List}
use Prim.Native.Nat.{ℕ}
use lib.ListN.{length}
use Rattle.laws.proofs.Once.{Settles}
use Rattle.pile_report.proofs.Says.{report-once}
use Rattle.pile_report.proofs.Runs.{takes-once}
use Rattle.pile_report.proofs.checking.check_report.Kinds as check-report-kinds
use Rattle.pile_report.proofs.checking.check_report.Reads as check-report-reads
use Rattle.pile_report.proofs.cutting.cut_run.Kinds as cut-run-kinds
use Rattle.pile_report.proofs.cutting.cut_run.Reads as cut-run-reads

pub check-report-once : Settles check-report-kinds.ps check-report-kinds.r check-report-reads.Learnt
check-report-once κs a x u y v p q = (report-once a.0.now a.1.0.now x y p q, refl)

pub cut-run-once : Settles cut-run-kinds.ps cut-run-kinds.r cut-run-reads.Learnt
cut-run-once κs a x u y v p q =
    let same = takes-once a.0.now a.1.0.now (length a.1.1.0.now) x y p.0 q.0 in
    (same, ap (λ (out : List ℕ). (tt, (tt, (out, tt)))) (cc))
