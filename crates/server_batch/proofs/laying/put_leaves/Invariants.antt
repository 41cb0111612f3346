-- `server_batch::laying::put_leaves` meets its contract. The loop keeps: what is promised, of the first `i` packets.
use Rattle.server_batch.specs.Steps.{stay_at, leaf_in, PutLeaves}
use Rattle.server_batch.proofs.laying.put_leaves.Given as goal

abbrev pub invariant-loop-i : goal.invariant-loop-i
invariant-loop-i l =
    PutLeaves (stay_at l.chosen.marks.now l.chosen.packets.lengths.now l.chosen.least) (leaf_in l.chosen.packets.slots.now l.chosen.packets.slot l.chosen.packets.lengths.now) l.i l.initial.rows l.rows l.k
