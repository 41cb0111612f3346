-- `wire_message::values::has_tag` meets its contract. The tag stands below the count.
use Rattle.wire_message.specs.Values.{has}
use Rattle.wire_message.proofs.values.has_tag.Goals as goal

pub returns : goal.returns
unfolding has
returns c = rw (c.index_of.ensures, c.le32-n.ensures)
