-- `wire_packet::packet::mark_wrong` meets its contract.
use native.Mathlib.Omega.{arith}
use lib.ListN.{length-take}
use Rattle.wire_packet.specs.Packet.{mark_wrong}
use Rattle.wire_packet.proofs.packet.mark_wrong.Goals as goal

pub slice_bounds-equal-end : goal.slice_bounds-equal-end
slice_bounds-equal-end c = simp length-take (omega arith)

pub returns : goal.returns
unfolding mark_wrong
returns c = rw c.equal.ensures
