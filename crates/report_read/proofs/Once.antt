-- The contract settles the result, and what is left in the lent buffer.
use mathlib.Core.Path.{sym, ap, ◌∙◌}
use mathlib.Core.List.{List}
use Prim.Native.Nat.{ℕ}
use Rattle.laws.proofs.Once.{Settles}
use Rattle.report_read.proofs.reading.read_report.Kinds as read-report-kinds
use Rattle.report_read.proofs.reading.read_report.Reads as read-report-reads

pub read-report-once : Settles read-report-kinds.ps read-report-kinds.r read-report-reads.Learnt
read-report-once κs a x u y v p q =
    let same = p.0 ∙ sym q.0 in (same, ap (λ (out : List ℕ). (tt, (out, tt))) (cc))
