-- wire_packet/proofs/requests/request_code/Answers.antt
-- `wire_packet::requests::request_code` meets its contract. A place in the message is one in the packet.
use Rattle.std.specs.Prelude.{Err}
use Prim.Native.Nat.{ℕ, ◌+◌, ◌^◌, ◌<◌}
use mathlib.Core.Path.{◌≡◌, refl}
use native.Mathlib.Omega.{arith}
use Rattle.refusal.specs.Refusal.{passes, shifted}
use Rattle.refusal.specs.declared.Refusal.{Refusal}
use Rattle.refusal.proofs.Passing.{Answer, refused-by, shifted-answer}
use Rattle.wire_packet.specs.Packet.{packet_code, body_start, body}
use Rattle.wire_packet.specs.Request.{request_message_code, request_code}
use Rattle.wire_packet.proofs.PlacesIn.{request-in, told-fits}
use Rattle.wire_packet.proofs.RequestCodes.{packet-long, message-answers}
use borrow.Author.Rules.{rules}
use Rattle.wire_packet.proofs.requests.request_code.Goals as goal

pub returns-in_err-message_in : goal.returns-in_err-message_in
unfolding request_code
returns-in_err-message_in c =
    let e = c.in_err-message_in.field-0.0 in
    let told : ◌≡◌ {A = Answer} (Err e) (passes (packet_code c.args.p.now)) = search rules in
    let handed : c.from_residual.result ≡ Err e = search rules in
    rw handed (refused-by _ _ told refl)

pub map_err-requires : goal.map_err-requires
map_err-requires c =
    let p = c.args.p.now in
    let good : ((packet_code p).code ≡ 0) × (c.in_ok-message_in.field-0.now ≡ body p) = search rules in
    let fits : (e : Refusal) → c.request_message_code.result ≡ Err e → e.at + body_start < 2 ^ 64 =
    λ e h. omega (arith, told-fits request_message_code request-in p (packet-long p _ refl good.0) c.request_message_code.ensures good.1 e h) in
    search (fits, rules)

pub returns : goal.returns
unfolding request_code
returns c =
    let p = c.args.p.now in
    let good : ((packet_code p).code ≡ 0) × (c.in_ok-message_in.field-0.now ≡ body p) = search rules in
    message-answers request_message_code p good.0 good.1
    (shifted-answer body_start _ _ c.request_message_code.ensures c.map_err.ensures.cases (λ x y h q. search rules))
