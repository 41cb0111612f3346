-- `wire_packet::packet::length_wrong` meets its contract.
use Rattle.wire_packet.specs.Packet.{length_wrong}
use Rattle.wire_packet.proofs.packet.length_wrong.Goals as goal

pub returns : goal.returns
unfolding length_wrong
returns c = rw c.le32.ensures
