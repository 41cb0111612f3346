-- wire_packet/proofs/requests/request_bad/Answers.antt
-- `wire_packet::requests::request_bad` meets its contract.
use mathlib.Core.Path.{◌∙◌}
use Rattle.refusal.proofs.Passing.{is-refused}
use Rattle.wire_packet.specs.Request.{request_bad}
use Rattle.wire_packet.proofs.requests.request_bad.Goals as goal

pub returns : goal.returns
unfolding request_bad
returns c = c.is_err.ensures.value ∙ is-refused _ c.request_code.ensures
