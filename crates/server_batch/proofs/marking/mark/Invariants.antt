-- `server_batch::marking::mark` meets its contract. The loop keeps: the first `i` marks are there.
use mathlib.Core.List.{◌++◌}
use mathlib.Core.Path.{◌≡◌}
use lib.ListN.{drop}
use Rattle.laws.specs.Upto.{upto}
use Rattle.server_batch.specs.Batch.{batch}
use Rattle.server_batch.specs.Steps.{mark_at}
use Rattle.server_batch.proofs.marking.mark.Given as goal

abbrev pub invariant-loop-i : goal.invariant-loop-i
invariant-loop-i l =
    l.marks ≡ upto (mark_at (batch l.packets.slots.now l.packets.slot l.packets.lengths.now l.srv)) l.i ++ drop l.i l.initial.marks
