-- `wire_message::frame::first_bad_offset` meets its contract. The scan has found no bad offset below i, and `last` is
-- the one before offset[i].
use Prim.Native.Nat.{◌-◌}
use mathlib.Core.Path.{◌≡◌}
use Rattle.laws.specs.Least.{least}
use Rattle.wire_message.specs.Frame.{offset, offset_bad}
use Rattle.wire_message.proofs.frame.first_bad_offset.Given as goal

abbrev pub invariant-loop-i : goal.invariant-loop-i
invariant-loop-i l =
    (l.last ≡ offset l.m (l.i - 1)) × (least (offset_bad l.m) l.i ≡ l.i)
