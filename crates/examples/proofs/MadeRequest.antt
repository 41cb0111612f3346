-- A request made up of fields: it is a good one, whatever its nonce of 32 bytes is.
use mathlib.Core.Path.{◌≡◌, refl, sym}
use mathlib.Core.Bool.{true≢false}
use mathlib.Core.List.{List, [], ◌∷◌}
use Prim.Native.Nat.{ℕ}
use native.Mathlib.Omega.{arith}
use lib.ListN.{length, length-append}
use Rattle.laws.specs.Any.{any}
use Rattle.laws.specs.Least.{least, somewhere}
use Rattle.laws.specs.Numbers.{le, le_bytes}
use Rattle.laws.proofs.Numbers.{length-le_bytes}
use Rattle.wire_message.specs.Encode.{Field, Fields, ◌≔◌, encode, values, among, value_among}
use Rattle.wire_message.specs.Tags.{VER, NONC, TYPE}
use Rattle.wire_message.proofs.FieldsKept.{tags_wrong, fields-kept}
use Rattle.wire_packet.specs.Good.{PacketFields, GoodRequest}
use Rattle.wire_packet.specs.Packet.{packet_of}
use Rattle.wire_packet.proofs.PacketFields.{fields-packed}
use Rattle.wire_packet.proofs.Versions.{one-version, versions-good, version-held}
use Rattle.examples.proofs.AreBytes.{AreBytes, bytes_le, bytes-encode, bytes-packet}

-- the request with this nonce
abbrev pub ask_fields : List ℕ → List Field
ask_fields nonce = VER ≔ one-version ∷ NONC ≔ nonce ∷ TYPE ≔ le_bytes 4 0 ∷ []

abbrev pub request : List ℕ → List ℕ
request nonce = packet_of (encode (ask_fields nonce))

module _ (nonce : List ℕ) (long : length nonce ≡ 32) where
  -- it has 40 bytes of values, of whole fours
  ask-size : length (values (ask_fields nonce)) ≡ 40
  unfolding values
  ask-size = simp (length-append, length-le_bytes) (omega arith)

  ask-fields : Fields (ask_fields nonce)
  unfolding tags_wrong any somewhere least le_bytes
  ask-fields = fields-kept _ refl (refl, (omega arith, (refl, tt))) (omega (arith, ask-size))

  -- so that it is a packet,
  pub ask-packet : PacketFields (request nonce) (ask_fields nonce)
  ask-packet = fields-packed _ 40 ask-fields ask-size (omega arith)

  -- of bytes where its nonce is,
  pub ask-bytes : AreBytes nonce → AreBytes (request nonce)
  ask-bytes b = bytes-packet _ (bytes-encode _ (bytes_le 4 1, (b, (bytes_le 4 0, tt))))

  -- and a good request
  pub ask-good : GoodRequest (request nonce)
  unfolding among value_among le_bytes le
  ask-good = record {
    fields = ask_fields nonce;
    packet = ask-packet;
    ver = record { there = refl; right = versions-good };
    nonc = record { there = refl; right = long };
    type = record { there = refl; right = refl };
    srv = λ e. absurd (true≢false (sym e));
    type-is = refl;
    version = version-held;
  }
