-- Each operation's contract settles its result.
use mathlib.Core.Path.{refl, sym, ◌∙◌}
use Rattle.laws.proofs.Once.{Settles}
use Rattle.pile.proofs.piles.pile_code.Kinds as pile-code-kinds
use Rattle.pile.proofs.piles.pile_code.Reads as pile-code-reads
use Rattle.pile.proofs.judging.judge.Kinds as judge-kinds
use Rattle.pile.proofs.judging.judge.Reads as judge-reads
use Rattle.pile.proofs.linking.linked.Kinds as linked-kinds
use Rattle.pile.proofs.linking.linked.Reads as linked-reads
use Rattle.pile.proofs.linking.first_rand_zero.Kinds as first-rand-kinds
use Rattle.pile.proofs.linking.first_rand_zero.Reads as first-rand-reads

pub pile-code-once : Settles pile-code-kinds.ps pile-code-kinds.r pile-code-reads.Learnt
pile-code-once κs a x u y v p q = (p ∙ sym q, refl)

pub judge-once : Settles judge-kinds.ps judge-kinds.r judge-reads.Learnt
judge-once κs a x u y v p q = (p.1 ∙ sym q.1, refl)

pub linked-once : Settles linked-kinds.ps linked-kinds.r linked-reads.Learnt
linked-once κs a x u y v p q = (p ∙ sym q, refl)

pub first-rand-once : Settles first-rand-kinds.ps first-rand-kinds.r first-rand-reads.Learnt
first-rand-once κs a x u y v p q = (p ∙ sym q, refl)
