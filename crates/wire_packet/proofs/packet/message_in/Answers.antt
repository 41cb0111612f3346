-- wire_packet/proofs/packet/message_in/Answers.antt
-- `wire_packet::packet::message_in` meets its contract.
use Rattle.std.specs.Prelude.{Err}
use mathlib.Core.Path.{◌≡◌, refl, sym, ◌∙◌}
use Rattle.refusal.proofs.Passing.{goes-on}
use Rattle.wire_packet.proofs.RequestCodes.{packet-long}
use borrow.Author.Rules.{rules}
use Rattle.wire_packet.proofs.packet.message_in.Goals as goal

pub returns-in_err-packet_code : goal.returns-in_err-packet_code
returns-in_err-packet_code c =
    let e = c.in_err-packet_code.field-0.0 in
    let told : c.packet_code.result ≡ Err e = search rules in
    let handed : c.from_residual.result ≡ Err e = search rules in
    rw handed (sym told ∙ c.packet_code.ensures)

pub body_of-requires : goal.body_of-requires
body_of-requires c = packet-long _ _ refl (goes-on _ c.packet_code.ensures (search rules))

pub returns : goal.returns
returns c = (goes-on _ c.packet_code.ensures (search rules), c.body_of.ensures)
