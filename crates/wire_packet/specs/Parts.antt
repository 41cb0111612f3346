-- What a host verifies of a response by itself: two signatures, and the key that one of them is made with.
use Rattle.std.specs.Prelude.{ℕ, List, Result}
use Rattle.refusal.specs.Refusal.{answer}
use Rattle.refusal.specs.declared.Refusal.{Refusal}
use Rattle.wire_message.specs.Tags.{SIG, PUBK}
use Rattle.wire_message.specs.Values.{value_of}
use Rattle.wire_packet.specs.Packet.{body}
use Rattle.wire_packet.specs.Response.{cert, dele, signed_code}
use Rattle.wire_packet.specs.declared.SignedParts.{SignedParts}

-- what a response of the right shape says, of its message. The signature over SREP is the SIG of the root (draft
-- 19, 5.2.1). That over DELE is the SIG of CERT. The key that signs SREP is the PUBK of DELE (5.2.6)
unfoldable pub parts_in : List ℕ → SignedParts
parts_in m =
    record {
      signature = value_of m SIG;
      delegation = value_of (cert m) SIG;
      pubk = value_of (dele m) PUBK;
    }

-- what reading the parts of a response packet answers: codes 1 to 7, as for the signed texts, and else the parts
unfoldable pub parts_of : List ℕ → Result SignedParts Refusal
parts_of p = answer (signed_code p) (parts_in (body p))
