-- Each export's contract settles its result, and what it leaves in the lent buffers: those of reports in the public
-- format.
use Prim.Native.Nat.{ℕ}
use mathlib.Core.Path.{sym, ap, ◌∙◌}
use mathlib.Core.List.{List}
use Rattle.laws.proofs.Once.{Settles}
use Rattle.report_write.proofs.Piles.{publishes-once}
use Rattle.report_read.specs.Entry.{entries_of}
use Rattle.report_read.specs.Read.{read_of}
use Rattle.report_text.specs.Forwarded.{pile_of}
use Rattle.report_text.proofs.Once.{forwards-once}
use Rattle.capi.proofs.publishing.tb_cut_text.Kinds as tb-cut-text-kinds
use Rattle.capi.proofs.publishing.tb_cut_text.Reads as tb-cut-text-reads
use Rattle.capi.proofs.publishing.tb_cut_signed_text.Kinds as tb-cut-signed-text-kinds
use Rattle.capi.proofs.publishing.tb_cut_signed_text.Reads as tb-cut-signed-text-reads
use Rattle.capi.proofs.publishing.tb_read_report.Kinds as tb-read-report-kinds
use Rattle.capi.proofs.publishing.tb_read_report.Reads as tb-read-report-reads
use Rattle.capi.proofs.publishing.tb_write_report.Kinds as tb-write-report-kinds
use Rattle.capi.proofs.publishing.tb_write_report.Reads as tb-write-report-reads
use Rattle.capi.proofs.publishing.tb_write_signed_report.Kinds as tb-write-signed-report-kinds
use Rattle.capi.proofs.publishing.tb_write_signed_report.Reads as tb-write-signed-report-reads

pub tb-read-report-once : Settles tb-read-report-kinds.ps tb-read-report-kinds.r tb-read-report-reads.Learnt
tb-read-report-once κs a x u y v p q =
    let same = p.0 ∙ sym q.0 in (same, ap (λ (out : List ℕ). (tt, (out, tt))) (cc))

pub tb-write-report-once : Settles tb-write-report-kinds.ps tb-write-report-kinds.r tb-write-report-reads.Learnt
tb-write-report-once κs a x u y v p q =
    let same = publishes-once _ _ _ p.answer q.answer p.right q.right in
    (cc, ap (λ (out : List ℕ). (tt, (tt, (out, tt)))) (cc))

pub tb-write-signed-report-once :
    Settles tb-write-signed-report-kinds.ps tb-write-signed-report-kinds.r tb-write-signed-report-reads.Learnt
tb-write-signed-report-once κs a x u y v p q =
    let same = publishes-once _ _ _ p.answer q.answer p.right q.right in
    (cc, ap (λ (out : List ℕ). (tt, (out, tt))) (cc))

pub tb-cut-text-once : Settles tb-cut-text-kinds.ps tb-cut-text-kinds.r tb-cut-text-reads.Learnt
tb-cut-text-once κs a x u y v p q =
    let same =
    forwards-once (read_of (entries_of a.0.now) 65536) (pile_of a.0.now) _ _ p.answer q.answer p.right
    q.right in
    (cc, ap (λ (out : List ℕ). (tt, (tt, (out, tt)))) (cc))

pub tb-cut-signed-text-once :
    Settles tb-cut-signed-text-kinds.ps tb-cut-signed-text-kinds.r tb-cut-signed-text-reads.Learnt
tb-cut-signed-text-once κs a x u y v p q =
    let same =
    forwards-once (read_of (entries_of a.0.now) 65536) (pile_of a.0.now) _ _ p.answer q.answer p.right
    q.right in
    (cc, ap (λ (out : List ℕ). (tt, (out, tt))) (cc))
