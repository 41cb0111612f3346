-- `server_batch::fitting::count_long` meets its contract. The loop keeps: `k` of the first `i` packets are answered.
use mathlib.Core.Path.{◌≡◌}
use Rattle.server_batch.specs.Picking.{how_many}
use Rattle.server_batch.specs.Steps.{stay_at}
use Rattle.server_batch.proofs.fitting.count_long.Given as goal

abbrev pub invariant-loop-i : goal.invariant-loop-i
invariant-loop-i l = l.k ≡ how_many (stay_at l.marks l.lengths l.size) l.i
