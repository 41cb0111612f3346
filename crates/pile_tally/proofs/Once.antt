-- Each operation's contract settles its result.
use mathlib.Core.Path.{refl, sym, ◌∙◌}
use Rattle.laws.proofs.Once.{Settles}
use Rattle.pile_tally.proofs.keeping.start.Kinds as start-kinds
use Rattle.pile_tally.proofs.keeping.start.Reads as start-reads
use Rattle.pile_tally.proofs.keeping.take_window.Kinds as take-window-kinds
use Rattle.pile_tally.proofs.keeping.take_window.Reads as take-window-reads
use Rattle.pile_tally.proofs.passing.any_contradiction.Kinds as any-contradiction-kinds
use Rattle.pile_tally.proofs.passing.any_contradiction.Reads as any-contradiction-reads
use Rattle.pile_tally.proofs.passing.pile_contradicts.Kinds as pile-contradicts-kinds
use Rattle.pile_tally.proofs.passing.pile_contradicts.Reads as pile-contradicts-reads

pub start-tally-once : Settles start-kinds.ps start-kinds.r start-reads.Learnt
start-tally-once κs a x u y v p q = (p ∙ sym q, refl)

pub take-window-once : Settles take-window-kinds.ps take-window-kinds.r take-window-reads.Learnt
take-window-once κs a x u y v p q = (p.1 ∙ sym q.1, refl)

pub any-contradiction-once :
    Settles any-contradiction-kinds.ps any-contradiction-kinds.r any-contradiction-reads.Learnt
any-contradiction-once κs a x u y v p q = (p ∙ sym q, refl)

pub pile-contradicts-once : Settles pile-contradicts-kinds.ps pile-contradicts-kinds.r pile-contradicts-reads.Learnt
pile-contradicts-once κs a x u y v p q = (p ∙ sym q, refl)
