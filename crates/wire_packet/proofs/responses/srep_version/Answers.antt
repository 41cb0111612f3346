-- `wire_packet::responses::srep_version` meets its contract.
use borrow.Author.Rules.{rules}
use Rattle.wire_packet.proofs.responses.srep_version.Goals as goal

pub number32-requires : goal.number32-requires
number32-requires c = rw c.value_of.ensures (search rules)

pub returns : goal.returns
returns c = rw (c.number32.ensures, c.value_of.ensures)
