-- `server_batch::answering::answer_each` meets its contract. The loop keeps: what is promised, of the first `i`
-- packets,
-- of which `k` are answered.
use mathlib.Core.Path.{◌≡◌}
use lib.ListN.{length}
use Rattle.server_batch.specs.Answering.{out_after}
use Rattle.server_batch.specs.Picking.{how_many}
use Rattle.server_batch.specs.Steps.{stay_at, answers_in}
use Rattle.server_batch.proofs.answering.answer_each.Given as goal

abbrev pub invariant-loop-i : goal.invariant-loop-i
invariant-loop-i l =
    (l.k ≡ how_many (stay_at l.chosen.marks.now l.chosen.packets.lengths.now l.chosen.least) l.i)
    × (length l.out ≡ length l.initial.out)
    × (l.out
    ≡ out_after (stay_at l.chosen.marks.now l.chosen.packets.lengths.now l.chosen.least) (answers_in l.chosen.packets.slots.now l.chosen.packets.slot l.chosen.packets.lengths.now l.chosen.marks.now l.chosen.least l.common.rows.now l.common.depth l.common.said l.common.cert.now) l.common.room l.initial.out l.i)
