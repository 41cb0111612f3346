-- wire_packet/proofs/requests/good_request/Answers.antt
-- `wire_packet::requests::good_request` meets its contract.
use Rattle.wire_packet.specs.Request.{request_in}
use Rattle.wire_packet.proofs.requests.good_request.Goals as goal

pub returns : goal.returns
unfolding request_in
returns c = rw (c.value32-nonc.ensures, c.srv_in-srv.ensures)
