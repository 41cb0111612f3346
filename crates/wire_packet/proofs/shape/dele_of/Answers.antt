-- `wire_packet::shape::dele_of` meets its contract.
use borrow.Author.Rules.{rules}
use Rattle.wire_packet.proofs.shape.dele_of.Goals as goal

pub value_of-requires-2 : goal.value_of-requires-2
value_of-requires-2 c = rw c.value_of.ensures (search rules)

pub returns : goal.returns
returns c = rw (c.value_of-2.ensures, c.value_of.ensures)
