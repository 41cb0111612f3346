-- `wire_message::rules::row_absent` meets its contract. From what its callee ensures.
use Rattle.wire_message.specs.Rules.{absent}
use Rattle.wire_message.proofs.rules.row_absent.Goals as goal

pub returns-then-row : goal.returns-then-row
unfolding absent
returns-then-row c = rw (c.if-row.true, c.has_tag.ensures)

pub returns-else-row : goal.returns-else-row
unfolding absent
returns-else-row c = rw c.if-row.false
