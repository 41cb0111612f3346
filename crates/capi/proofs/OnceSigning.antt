-- Each export's contract settles its result, and what it leaves in the lent buffers: those that verify signatures by
-- themselves.
use Prim.Native.Nat.{ℕ}
use mathlib.Core.Path.{refl, sym, ap, ◌∙◌}
use mathlib.Core.List.{List}
use Rattle.laws.proofs.Once.{Settles}
use Rattle.pile_report.proofs.Says.{report-once}
use Rattle.pile_report.proofs.Runs.{takes-once}
use Rattle.c_evidence.specs.Piling.{tb_reported}
use Rattle.capi.proofs.signing.tb_answers.Kinds as tb-answers-kinds
use Rattle.capi.proofs.signing.tb_answers.Reads as tb-answers-reads
use Rattle.capi.proofs.signing.tb_check_signed.Kinds as tb-check-signed-kinds
use Rattle.capi.proofs.signing.tb_check_signed.Reads as tb-check-signed-reads
use Rattle.capi.proofs.signing.tb_judge_signed.Kinds as tb-judge-signed-kinds
use Rattle.capi.proofs.signing.tb_judge_signed.Reads as tb-judge-signed-reads
use Rattle.capi.proofs.signing.tb_check_signed_report.Kinds as tb-check-signed-report-kinds
use Rattle.capi.proofs.signing.tb_check_signed_report.Reads as tb-check-signed-report-reads
use Rattle.capi.proofs.signing.tb_cut_signed_run.Kinds as tb-cut-signed-run-kinds
use Rattle.capi.proofs.signing.tb_cut_signed_run.Reads as tb-cut-signed-run-reads

pub tb-answers-once : Settles tb-answers-kinds.ps tb-answers-kinds.r tb-answers-reads.Learnt
tb-answers-once κs a x u y v p q = (refl, ap (λ (out : List ℕ). (tt, (tt, (out, tt)))) (p ∙ sym q))

pub tb-check-signed-once : Settles tb-check-signed-kinds.ps tb-check-signed-kinds.r tb-check-signed-reads.Learnt
tb-check-signed-once κs a x u y v p q = (p ∙ sym q, refl)

pub tb-judge-signed-once : Settles tb-judge-signed-kinds.ps tb-judge-signed-kinds.r tb-judge-signed-reads.Learnt
tb-judge-signed-once κs a x u y v p q = (p ∙ sym q, refl)

pub tb-check-signed-report-once :
    Settles tb-check-signed-report-kinds.ps tb-check-signed-report-kinds.r tb-check-signed-report-reads.Learnt
tb-check-signed-report-once κs a x u y v p q =
    let same = report-once _ _ p.answer q.answer p.right q.right in
    (p.same ∙ ap tb_reported same ∙ sym q.same, refl)

pub tb-cut-signed-run-once : Settles tb-cut-signed-run-kinds.ps tb-cut-signed-run-kinds.r tb-cut-signed-run-reads.Learnt
tb-cut-signed-run-once κs a x u y v p q =
    let same = takes-once _ _ _ p.answer q.answer p.right q.right in
    (cc, ap (λ (out : List ℕ). (tt, (out, tt))) (cc))
