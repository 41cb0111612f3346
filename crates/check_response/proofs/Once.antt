-- Each operation's contract settles its result.
use mathlib.Core.Path.{refl, sym, ◌∙◌}
use Rattle.laws.proofs.Once.{Settles}
use Rattle.check_response.proofs.checking.check_response.Kinds as check-response-kinds
use Rattle.check_response.proofs.checking.check_response.Reads as check-response-reads

pub check-response-once : Settles check-response-kinds.ps check-response-kinds.r check-response-reads.Learnt
check-response-once κs a x u y v p q = (p.1 ∙ sym q.1, refl)
