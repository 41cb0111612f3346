-- Each operation's contract settles its result.
use mathlib.Core.Path.{refl, sym, ◌∙◌}
use Rattle.laws.proofs.Once.{Settles}
use Rattle.check_reuse.proofs.may_use.Kinds as may-use-kinds
use Rattle.check_reuse.proofs.may_use.Reads as may-use-reads
use Rattle.check_reuse.proofs.same_delegation.Kinds as same-delegation-kinds
use Rattle.check_reuse.proofs.same_delegation.Reads as same-delegation-reads

pub may-use-once : Settles may-use-kinds.ps may-use-kinds.r may-use-reads.Learnt
may-use-once κs a x u y v p q = (p ∙ sym q, refl)

pub same-delegation-once : Settles same-delegation-kinds.ps same-delegation-kinds.r same-delegation-reads.Learnt
same-delegation-once κs a x u y v p q = (p ∙ sym q, refl)
