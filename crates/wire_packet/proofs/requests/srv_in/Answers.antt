-- wire_packet/proofs/requests/srv_in/Answers.antt
-- `wire_packet::requests::srv_in` meets its contract.
use mathlib.Core.Path.{sym, ◌∙◌}
use Rattle.wire_packet.specs.Request.{srv_in}
use Rattle.wire_packet.proofs.requests.srv_in.Goals as goal

pub value32-requires : goal.value32-requires
value32-requires c = (c.requires.frame, c.requires.srv-long (sym c.has_tag.ensures ∙ c.if-has_tag.true))

pub returns-then-has_tag : goal.returns-then-has_tag
unfolding srv_in
returns-then-has_tag c = rw (c.value32.ensures, sym c.has_tag.ensures ∙ c.if-has_tag.true)

pub returns-else-has_tag : goal.returns-else-has_tag
unfolding srv_in
returns-else-has_tag c = rw (sym c.has_tag.ensures ∙ c.if-has_tag.false)
