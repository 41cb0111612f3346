-- Each contract settles its result, and what is left in the lent buffer.
use Prim.Native.Nat.{ℕ}
use mathlib.Core.Path.{sym, ap, ◌∙◌}
use mathlib.Core.List.{List}
use Rattle.laws.proofs.Once.{Settles}
use Rattle.report_write.proofs.Piles.{publishes-once}
use Rattle.report_write.proofs.publishing.put_report.Kinds as put-report-kinds
use Rattle.report_write.proofs.publishing.put_report.Reads as put-report-reads
use Rattle.report_write.proofs.publishing.write_report.Kinds as write-report-kinds
use Rattle.report_write.proofs.publishing.write_report.Reads as write-report-reads

pub put-report-once : Settles put-report-kinds.ps put-report-kinds.r put-report-reads.Learnt
put-report-once κs a x u y v p q =
    let same = p.0 ∙ sym q.0 in (same, ap (λ (out : List ℕ). (tt, (out, tt))) (cc))

pub write-report-once : Settles write-report-kinds.ps write-report-kinds.r write-report-reads.Learnt
write-report-once κs a x u y v p q =
    let same = publishes-once _ _ _ x y p.0 q.0 in (same, ap (λ (out : List ℕ). (tt, (tt, (out, tt)))) (cc))
