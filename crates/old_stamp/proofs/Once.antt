-- The operation's contract settles its result.
use mathlib.Core.Path.{refl, sym, ◌∙◌}
use Rattle.laws.proofs.Once.{Settles}
use Rattle.old_stamp.proofs.reading.old_window.Kinds as old-window-kinds
use Rattle.old_stamp.proofs.reading.old_window.Reads as old-window-reads

pub old-window-once : Settles old-window-kinds.ps old-window-kinds.r old-window-reads.Learnt
old-window-once κs a x u y v p q = (p.1 ∙ sym q.1, refl)
