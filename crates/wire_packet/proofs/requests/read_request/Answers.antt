-- wire_packet/proofs/requests/read_request/Answers.antt
-- `wire_packet::requests::read_request` meets its contract.
use Rattle.std.specs.Prelude.{Err}
use mathlib.Core.Path.{◌≡◌, ap, ◌∙◌}
use Rattle.refusal.proofs.Passing.{goes-on, answers-value, answers-refusal}
use Rattle.wire_packet.specs.Request.{request_in, request_of}
use Rattle.wire_packet.proofs.RequestCodes.{asks, request-body}
use borrow.Author.Rules.{rules}
use Rattle.wire_packet.proofs.requests.read_request.Goals as goal

pub returns-in_err-request_code : goal.returns-in_err-request_code
unfolding request_of
returns-in_err-request_code c =
    let e = c.in_err-request_code.field-0.0 in
    let told : c.request_code.result ≡ Err e = search rules in
    let handed : c.from_residual.result ≡ Err e = search rules in
    rw handed (answers-refusal _ _ c.request_code.ensures told)

pub body_of-requires : goal.body_of-requires
body_of-requires c = (request-body _ (goes-on _ c.request_code.ensures (search rules))).0

pub good_request-requires : goal.good_request-requires
good_request-requires c =
    rw c.body_of.ensures (asks _ (request-body _ (goes-on _ c.request_code.ensures (search rules))).1)

pub returns : goal.returns
unfolding request_of
returns c =
    answers-value _ c.request_code.ensures (search rules) (c.good_request.ensures ∙ ap request_in c.body_of.ensures)
