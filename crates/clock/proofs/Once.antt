-- Each operation's contract settles its result.
use mathlib.Core.Path.{refl, sym, ◌∙◌}
use Rattle.laws.proofs.Once.{Settles}
use Rattle.clock.proofs.keeping.start.Kinds as start-kinds
use Rattle.clock.proofs.keeping.start.Reads as start-reads
use Rattle.clock.proofs.keeping.take.Kinds as take-kinds
use Rattle.clock.proofs.keeping.take.Reads as take-reads
use Rattle.clock.proofs.telling.time_at.Kinds as time-at-kinds
use Rattle.clock.proofs.telling.time_at.Reads as time-at-reads

pub start-clock-once : Settles start-kinds.ps start-kinds.r start-reads.Learnt
start-clock-once κs a x u y v p q = (p ∙ sym q, refl)

pub take-kept-once : Settles take-kinds.ps take-kinds.r take-reads.Learnt
take-kept-once κs a x u y v p q = (p ∙ sym q, refl)

pub time-at-once : Settles time-at-kinds.ps time-at-kinds.r time-at-reads.Learnt
time-at-once κs a x u y v p q = (p ∙ sym q, refl)
