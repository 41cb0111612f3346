-- `wire_packet::fields::lacks_version` meets its contract.
use Rattle.wire_packet.proofs.fields.lacks_version.Goals as goal

pub returns : goal.returns
returns c = rw (c.lacks.ensures, c.value_of.ensures)
