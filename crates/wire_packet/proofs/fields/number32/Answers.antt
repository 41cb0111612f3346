-- `wire_packet::fields::number32` meets its contract.
use native.Mathlib.Omega.{arith}
use Rattle.wire_packet.proofs.fields.number32.Goals as goal

pub le32-requires : goal.le32-requires
le32-requires c = rw c.value_of.ensures (omega arith)

pub returns : goal.returns
returns c = rw (c.le32.ensures, c.value_of.ensures)
