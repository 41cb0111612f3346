-- The operation's contract settles its result.
use mathlib.Core.Path.{refl, sym, ◌∙◌}
use Rattle.laws.proofs.Once.{Settles}
use Rattle.clock_agreement.proofs.agreeing.agree_on.Kinds as agree-on-kinds
use Rattle.clock_agreement.proofs.agreeing.agree_on.Reads as agree-on-reads

pub agree-on-once : Settles agree-on-kinds.ps agree-on-kinds.r agree-on-reads.Learnt
agree-on-once κs a x u y v p q = (p ∙ sym q, refl)
