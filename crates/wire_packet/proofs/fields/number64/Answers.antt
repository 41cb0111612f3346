-- `wire_packet::fields::number64` meets its contract.
use native.Mathlib.Omega.{arith}
use Rattle.wire_packet.proofs.fields.number64.Goals as goal

pub le64-requires : goal.le64-requires
le64-requires c = rw c.value_of.ensures (omega arith)

pub returns : goal.returns
returns c = rw (c.le64.ensures, c.value_of.ensures)
