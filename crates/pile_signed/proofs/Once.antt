-- Each operation's contract settles its result, and what is left of the lent buffers.
use mathlib.Core.Path.{refl, sym, ap, ◌∙◌}
use mathlib.Core.List.{List}
use Prim.Native.Nat.{ℕ}
use Rattle.laws.proofs.Once.{Settles}
use Rattle.pile_report.proofs.Says.{report-once}
use Rattle.pile_report.proofs.Runs.{takes-once}
use Rattle.wire_request.proofs.Answered.{leaves-once}
use Rattle.pile_signed.proofs.judging.judge_signed.Kinds as judge-signed-kinds
use Rattle.pile_signed.proofs.judging.judge_signed.Reads as judge-signed-reads
use Rattle.pile_signed.proofs.reporting.check_signed_report.Kinds as report-signed-kinds
use Rattle.pile_signed.proofs.reporting.check_signed_report.Reads as report-signed-reads
use Rattle.pile_signed.proofs.cutting.cut_signed_run.Kinds as cut-signed-kinds
use Rattle.pile_signed.proofs.cutting.cut_signed_run.Reads as cut-signed-reads
use Rattle.pile_signed.proofs.listing.pile_answers.Kinds as pile-answers-kinds
use Rattle.pile_signed.proofs.listing.pile_answers.Reads as pile-answers-reads
use Rattle.pile_signed.proofs.listing.answer_byte.Kinds as answer-byte-kinds
use Rattle.pile_signed.proofs.listing.answer_byte.Reads as answer-byte-reads

pub judge-signed-once : Settles judge-signed-kinds.ps judge-signed-kinds.r judge-signed-reads.Learnt
judge-signed-once κs a x u y v p q = (p.1 ∙ sym q.1, refl)

pub report-signed-once : Settles report-signed-kinds.ps report-signed-kinds.r report-signed-reads.Learnt
report-signed-once κs a x u y v p q = (report-once _ _ x y p q, refl)

pub cut-signed-once : Settles cut-signed-kinds.ps cut-signed-kinds.r cut-signed-reads.Learnt
cut-signed-once κs a x u y v p q =
    let same = takes-once _ _ _ x y p.0 q.0 in
    (same, ap (λ (out : List ℕ). (tt, (out, tt))) (cc))

pub pile-answers-once : Settles pile-answers-kinds.ps pile-answers-kinds.r pile-answers-reads.Learnt
pile-answers-once κs a x u y v p q =
    (p.0 ∙ sym q.0, ap (λ (out : List ℕ). (tt, (out, tt))) (leaves-once _ _ _ p q))

pub answer-byte-once : Settles answer-byte-kinds.ps answer-byte-kinds.r answer-byte-reads.Learnt
answer-byte-once κs a x u y v p q = (p ∙ sym q, refl)
