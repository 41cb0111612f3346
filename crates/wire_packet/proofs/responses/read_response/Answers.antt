-- wire_packet/proofs/responses/read_response/Answers.antt
-- `wire_packet::responses::read_response` meets its contract.
use Rattle.std.specs.Prelude.{Err}
use mathlib.Core.Path.{◌≡◌, refl, ap, ◌∙◌}
use Rattle.refusal.proofs.Passing.{goes-on, answers-value, answers-refusal}
use Rattle.wire_packet.specs.Response.{response_in, response_of}
use Rattle.wire_packet.proofs.ResponseCodes.{response-body}
use borrow.Author.Rules.{rules}
use Rattle.wire_packet.proofs.responses.read_response.Goals as goal

pub returns-in_err-response_code : goal.returns-in_err-response_code
unfolding response_of
returns-in_err-response_code c =
    let e = c.in_err-response_code.field-0.0 in
    let told : c.response_code.result ≡ Err e = search rules in
    let handed : c.from_residual.result ≡ Err e = search rules in
    rw handed (answers-refusal _ _ c.response_code.ensures told)

pub body_of-requires : goal.body_of-requires
body_of-requires c = (response-body _ _ refl (goes-on _ c.response_code.ensures (search rules))).0

pub good_response-requires : goal.good_response-requires
good_response-requires c =
    rw c.body_of.ensures (response-body _ _ refl (goes-on _ c.response_code.ensures (search rules))).1

pub returns : goal.returns
unfolding response_of
returns c =
    answers-value _ c.response_code.ensures (search rules) (c.good_response.ensures ∙ ap response_in c.body_of.ensures)
