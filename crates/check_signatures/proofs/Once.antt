-- Each operation's contract settles its result.
use mathlib.Core.Path.{refl, sym, ◌∙◌}
use Rattle.laws.proofs.Once.{Settles}
use Rattle.check_signatures.proofs.verifying.answers.Kinds as answers-kinds
use Rattle.check_signatures.proofs.verifying.answers.Reads as answers-reads
use Rattle.check_signatures.proofs.checking.check_signed.Kinds as check-signed-kinds
use Rattle.check_signatures.proofs.checking.check_signed.Reads as check-signed-reads

pub answers-once : Settles answers-kinds.ps answers-kinds.r answers-reads.Learnt
answers-once κs a x u y v p q = (p ∙ sym q, refl)

pub check-signed-once : Settles check-signed-kinds.ps check-signed-kinds.r check-signed-reads.Learnt
check-signed-once κs a x u y v p q = (p.1 ∙ sym q.1, refl)
