-- Our written request (document 01, "Our written request"; draft 19, 5.1), as a packet of its fields.
use Rattle.std.specs.Prelude.{List, [], ◌∷◌, ℕ, replicate}
use Rattle.hash.specs.Hashes.{srv_of}
use Rattle.laws.specs.Numbers.{le_bytes}
use Rattle.wire_message.specs.Encode.{Field, encode}
use Rattle.wire_message.specs.Tags.{VER, SRV, NONC, TYPE, ZZZZ}
use Rattle.wire_packet.specs.Packet.{packet_of}

-- version 1, the server's SRV value, the nonce, TYPE 0, and 912 zero bytes
abbrev pub request_fields : List ℕ → List ℕ → List Field
request_fields key nonce =
    record { tag = VER; value = le_bytes 4 1 }
    ∷ record { tag = SRV; value = srv_of key }
    ∷ record { tag = NONC; value = nonce }
    ∷ record { tag = TYPE; value = le_bytes 4 0 }
    ∷ record { tag = ZZZZ; value = replicate 912 0 }
    ∷ []

-- the whole packet, of 1,036 bytes
unfoldable pub request_bytes : List ℕ → List ℕ → List ℕ
request_bytes key nonce = packet_of (encode (request_fields key nonce))
