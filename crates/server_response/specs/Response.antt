-- The response that a server writes (request P1; draft 19, 5.2), as a packet of its fields.
use Rattle.std.specs.Prelude.{List, [], ◌∷◌, ℕ}
use Rattle.laws.specs.Numbers.{le_bytes}
use Rattle.wire_message.specs.Encode.{Field, ◌≔◌, encode}
use Rattle.wire_message.specs.Tags.{SIG, NONC, TYPE, PATH, SREP, CERT, INDX}
use Rattle.wire_message.specs.Values.{value_of}
use Rattle.wire_packet.specs.Packet.{packet_of, body}
use Rattle.server_parts.specs.Signed.{srep_bytes}

-- what the writer takes: the request packet, the place of its leaf, the root of the batch and the leaf's path, the time
-- and its radius, the value of CERT, and the signature over SREP
pub record Reply : Type 0 where
  pub request : List ℕ
  pub indx : ℕ
  pub root : List ℕ
  pub path : List ℕ
  pub midp : ℕ
  pub radi : ℕ
  pub cert : List ℕ
  pub signature : List ℕ

-- the same in the order of the call
abbrev pub reply : List ℕ → ℕ → List ℕ → List ℕ → ℕ → ℕ → List ℕ → List ℕ → Reply
reply request indx root path midp radi cert signature =
    record {
      request = request;
      indx = indx;
      root = root;
      path = path;
      midp = midp;
      radi = radi;
      cert = cert;
      signature = signature;
    }

-- the nonce that the request has
abbrev pub nonce_of : Reply → List ℕ
nonce_of a = value_of (body a.request) NONC

-- the signature, the request's nonce, TYPE 1, the path, SREP, CERT as it was lent, and the place of the leaf
abbrev pub response_fields : Reply → List Field
response_fields a =
    SIG ≔ a.signature
    ∷ NONC ≔ nonce_of a
    ∷ TYPE ≔ le_bytes 4 1
    ∷ PATH ≔ a.path
    ∷ SREP ≔ srep_bytes a.root a.midp a.radi
    ∷ CERT ≔ a.cert
    ∷ INDX ≔ le_bytes 4 a.indx
    ∷ []

-- the whole packet, of 264 bytes, the path and CERT
unfoldable pub response_bytes : Reply → List ℕ
response_bytes a = packet_of (encode (response_fields a))
