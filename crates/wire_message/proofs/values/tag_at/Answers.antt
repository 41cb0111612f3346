-- `wire_message::values::tag_at` meets its contract. N is the count.
use Rattle.wire_message.proofs.values.tag_at.Goals as goal

pub returns : goal.returns
returns c = rw (c.le32.ensures, c.le32-n.ensures)
