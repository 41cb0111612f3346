-- Each operation's contract settles its result.
use mathlib.Core.Path.{refl, sym, ◌∙◌}
use Rattle.laws.proofs.Once.{Settles}
use Rattle.wire_packet.proofs.requests.read_request.Kinds as read-request-kinds
use Rattle.wire_packet.proofs.requests.read_request.Reads as read-request-reads
use Rattle.wire_packet.proofs.requests.request_bad.Kinds as request-bad-kinds
use Rattle.wire_packet.proofs.requests.request_bad.Reads as request-bad-reads
use Rattle.wire_packet.proofs.requests.request_code.Kinds as request-code-kinds
use Rattle.wire_packet.proofs.requests.request_code.Reads as request-code-reads
use Rattle.wire_packet.proofs.responses.read_response.Kinds as read-response-kinds
use Rattle.wire_packet.proofs.responses.read_response.Reads as read-response-reads
use Rattle.wire_packet.proofs.responses.response_code.Kinds as response-code-kinds
use Rattle.wire_packet.proofs.responses.response_code.Reads as response-code-reads
use Rattle.wire_packet.proofs.responses.signed_code.Kinds as signed-code-kinds
use Rattle.wire_packet.proofs.responses.signed_code.Reads as signed-code-reads
use Rattle.wire_packet.proofs.parts.read_signed_parts.Kinds as read-signed-parts-kinds
use Rattle.wire_packet.proofs.parts.read_signed_parts.Reads as read-signed-parts-reads
use Rattle.wire_packet.proofs.packet.packet_code.Kinds as packet-code-kinds
use Rattle.wire_packet.proofs.packet.packet_code.Reads as packet-code-reads

pub read-request-once : Settles read-request-kinds.ps read-request-kinds.r read-request-reads.Learnt
read-request-once κs a x u y v p q = (p ∙ sym q, refl)

pub request-code-once : Settles request-code-kinds.ps request-code-kinds.r request-code-reads.Learnt
request-code-once κs a x u y v p q = (p ∙ sym q, refl)

pub request-bad-once : Settles request-bad-kinds.ps request-bad-kinds.r request-bad-reads.Learnt
request-bad-once κs a x u y v p q = (p ∙ sym q, refl)

pub read-response-once : Settles read-response-kinds.ps read-response-kinds.r read-response-reads.Learnt
read-response-once κs a x u y v p q = (p ∙ sym q, refl)

pub response-code-once : Settles response-code-kinds.ps response-code-kinds.r response-code-reads.Learnt
response-code-once κs a x u y v p q = (p ∙ sym q, refl)

pub signed-code-once : Settles signed-code-kinds.ps signed-code-kinds.r signed-code-reads.Learnt
signed-code-once κs a x u y v p q = (p ∙ sym q, refl)

pub read-signed-parts-once : Settles read-signed-parts-kinds.ps read-signed-parts-kinds.r read-signed-parts-reads.Learnt
read-signed-parts-once κs a x u y v p q = (p ∙ sym q, refl)

pub packet-code-once : Settles packet-code-kinds.ps packet-code-kinds.r packet-code-reads.Learnt
packet-code-once κs a x u y v p q = (p ∙ sym q, refl)
