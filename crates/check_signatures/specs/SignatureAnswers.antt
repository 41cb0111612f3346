-- What our own Ed25519 says of the two signatures of a response (request P11; document 01, "When a response is valid";
-- draft 19, 5.2.1 and 5.2.6). A yes means that the signature verifies under the key, by RFC 8032.
use Rattle.std.specs.Prelude.{ℕ, Bool, ◌&&◌, List, eqb}
use Rattle.ed25519.specs.Verification.{verifies}
use Rattle.wire_message.specs.Tags.{SIG, PUBK}
use Rattle.wire_message.specs.Values.{value_of}
use Rattle.wire_packet.specs.Packet.{body}
use Rattle.wire_packet.specs.Response.{cert, dele, signed_code}
use Rattle.wire_request.specs.Texts.{delegation_text, response_text}
use Rattle.check_signatures.specs.declared.Verified.{Verified}

-- of the response packet p: the SIG of CERT verifies over the delegation text, under the server's long-term key. A no,
-- too, where one of the codes 1 to 7 applies to p, so that there is no text.
unfoldable pub delegated : List ℕ → List ℕ → Bool
delegated key p = eqb (signed_code p).code 0 && verifies key (delegation_text p) (value_of (cert (body p)) SIG)

-- the SIG of the response verifies over the response text, under the PUBK of its own DELE
unfoldable pub responded : List ℕ → Bool
responded p =
    eqb (signed_code p).code 0 && verifies (value_of (dele (body p)) PUBK) (response_text p) (value_of (body p) SIG)

-- the two, as an answer
abbrev pub answers_of : List ℕ → List ℕ → Verified
answers_of key p = record { delegation = delegated key p; signature = responded p }
