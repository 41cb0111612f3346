-- Each export's contract settles its result: those of signatures.
use mathlib.Core.Path.{refl, sym, ◌∙◌}
use Rattle.laws.proofs.Once.{Settles}
use Rattle.capi.proofs.verifying.tb_verify.Kinds as tb-verify-kinds
use Rattle.capi.proofs.verifying.tb_verify.Reads as tb-verify-reads
use Rattle.capi.proofs.verifying.tb_verify_parts.Kinds as tb-verify-parts-kinds
use Rattle.capi.proofs.verifying.tb_verify_parts.Reads as tb-verify-parts-reads

pub tb-verify-once : Settles tb-verify-kinds.ps tb-verify-kinds.r tb-verify-reads.Learnt
tb-verify-once κs a x u y v p q = (p ∙ sym q, refl)

pub tb-verify-parts-once : Settles tb-verify-parts-kinds.ps tb-verify-parts-kinds.r tb-verify-parts-reads.Learnt
tb-verify-parts-once κs a x u y v p q = (p ∙ sym q, refl)
