-- A response made up of fields: it is a good one, whatever it says. Its siblings, signatures and PUBK are zeros, and
-- MINT is 0. ROOT is the leaf of the request with its nonce; the hash is not computed.
use mathlib.Core.Path.{◌≡◌, refl, ◌∙◌}
use mathlib.Core.List.{List, [], ◌∷◌}
use Prim.Native.Nat.{ℕ, ◌+◌, ◌*◌, ◌%◌, ◌^◌, ◌≤◌, ◌<◌}
use native.Mathlib.Omega.{arith}
use lib.ListN.{length, replicate, length-append, length-replicate}
use Rattle.laws.specs.Any.{any}
use Rattle.laws.specs.Least.{least, somewhere}
use Rattle.laws.specs.Numbers.{le, le_bytes}
use Rattle.laws.proofs.Numbers.{length-le_bytes, le-written}
use Rattle.hash.specs.Hashes.{leaf_of}
use Rattle.hash.proofs.Lengths.{length-leaf}
use Rattle.wire_message.specs.Encode.{Field, Fields, ◌≔◌, encode, values, among, value_among}
use Rattle.wire_message.specs.Tags.{SIG, VER, NONC, DELE, TYPE, PATH, RADI, PUBK, MIDP, SREP, VERS, MINT, ROOT, CERT}
use Rattle.wire_message.specs.Tags.{MAXT, INDX}
use Rattle.wire_message.proofs.Encoded.{length-encoded}
use Rattle.wire_message.proofs.FieldsKept.{tags_wrong, fields-kept}
use Rattle.wire_packet.specs.Blank.{zeros32, zeros64}
use Rattle.wire_packet.specs.Good.{PacketFields, GoodResponse}
use Rattle.wire_packet.specs.Packet.{packet_of}
use Rattle.wire_packet.proofs.PacketFields.{fields-packed}
use Rattle.wire_packet.proofs.Versions.{one-version, versions-good, version-held}
use Rattle.examples.proofs.AreBytes.{AreBytes, bytes-zeros, bytes_le, bytes-leaf, bytes-encode, bytes-packet}
use Rattle.examples.proofs.MadeRequest.{request}

-- what it says, and how many siblings it has
pub record Answer : Type 0 where
  pub nonce : List ℕ
  pub siblings : ℕ
  pub indx : ℕ
  pub midp : ℕ
  pub radi : ℕ
  pub maxt : ℕ

-- a nonce of 32 bytes, siblings that have room, and numbers of their width, RADI not 0
pub record Sound (a : Answer) : Type 0 where
  pub nonce-long : length a.nonce ≡ 32
  pub few : a.siblings ≤ 32
  pub indx-fits : a.indx < 2 ^ 32
  pub midp-fits : a.midp < 2 ^ 64
  pub radi-fits : a.radi < 2 ^ 32
  pub radi-more : 0 < a.radi
  pub maxt-fits : a.maxt < 2 ^ 64

-- its messages, from within
abbrev pub srep_fields : Answer → List Field
srep_fields a =
    VER ≔ one-version
    ∷ RADI ≔ le_bytes 4 a.radi
    ∷ MIDP ≔ le_bytes 8 a.midp
    ∷ VERS ≔ one-version
    ∷ ROOT ≔ leaf_of (request a.nonce)
    ∷ []

abbrev pub dele_fields : Answer → List Field
dele_fields a = PUBK ≔ zeros32 ∷ MINT ≔ le_bytes 8 0 ∷ MAXT ≔ le_bytes 8 a.maxt ∷ []

abbrev pub cert_fields : Answer → List Field
cert_fields a = SIG ≔ zeros64 ∷ DELE ≔ encode (dele_fields a) ∷ []

abbrev pub zero_path : Answer → List ℕ
zero_path a = replicate (32 * a.siblings) 0

abbrev pub answer_fields : Answer → List Field
answer_fields a =
    SIG ≔ zeros64
    ∷ NONC ≔ a.nonce
    ∷ TYPE ≔ le_bytes 4 1
    ∷ PATH ≔ zero_path a
    ∷ SREP ≔ encode (srep_fields a)
    ∷ CERT ≔ encode (cert_fields a)
    ∷ INDX ≔ le_bytes 4 a.indx
    ∷ []

abbrev pub response : Answer → List ℕ
response a = packet_of (encode (answer_fields a))

module _ (a : Answer) (ok : Sound a) where
  -- how many bytes of values each message has, all of whole fours, and how long it is
  srep-size : length (values (srep_fields a)) ≡ 52
  unfolding values
  srep-size = simp (length-append, length-le_bytes, length-leaf) (omega arith)

  pub srep-fields : Fields (srep_fields a)
  unfolding tags_wrong any somewhere least le_bytes
  srep-fields =
      let root : length (leaf_of (request a.nonce)) % 4 ≡ 0 = omega (arith, length-leaf (request a.nonce)) in
      fields-kept _ refl (refl, (refl, (refl, (refl, (root, tt))))) (omega (arith, srep-size))

  dele-size : length (values (dele_fields a)) ≡ 48
  unfolding values
  dele-size = simp (length-append, length-le_bytes) (omega arith)

  pub dele-fields : Fields (dele_fields a)
  unfolding tags_wrong any somewhere least le_bytes
  dele-fields = fields-kept _ refl (refl, (refl, (refl, tt))) (omega (arith, dele-size))

  dele-long : length (encode (dele_fields a)) ≡ 72
  dele-long = length-encoded (dele_fields a) dele-fields ∙ omega (arith, dele-size)

  cert-size : length (values (cert_fields a)) ≡ 136
  unfolding values
  cert-size = simp (length-append, dele-long) (omega arith)

  pub cert-fields : Fields (cert_fields a)
  unfolding tags_wrong any somewhere least
  cert-fields = fields-kept _ refl (refl, (omega (arith, dele-long), tt)) (omega (arith, cert-size))

  srep-long : length (encode (srep_fields a)) ≡ 92
  srep-long = length-encoded (srep_fields a) srep-fields ∙ omega (arith, srep-size)

  cert-long : length (encode (cert_fields a)) ≡ 152
  cert-long = length-encoded (cert_fields a) cert-fields ∙ omega (arith, cert-size)

  path-long : length (zero_path a) ≡ 32 * a.siblings
  path-long = length-replicate (32 * a.siblings) 0

  answer-size : length (values (answer_fields a)) ≡ 348 + 32 * a.siblings
  unfolding values
  answer-size = simp (length-append, length-le_bytes, ok.nonce-long, path-long, srep-long, cert-long) (omega arith)

  answer-fields : Fields (answer_fields a)
  unfolding tags_wrong any somewhere least le_bytes
  answer-fields =
      let nonce : length a.nonce % 4 ≡ 0 = omega (arith, ok.nonce-long) in
      let path : length (zero_path a) % 4 ≡ 0 = omega (arith, path-long) in
      let srep : length (encode (srep_fields a)) % 4 ≡ 0 = omega (arith, srep-long) in
      let cert : length (encode (cert_fields a)) % 4 ≡ 0 = omega (arith, cert-long) in
      fields-kept _ refl (refl, (nonce, (refl, (path, (srep, (cert, (refl, tt)))))))
      (omega (arith, answer-size, ok.few))

  -- so that it is a packet,
  pub answer-packet : PacketFields (response a) (answer_fields a)
  answer-packet = fields-packed _ (348 + 32 * a.siblings) answer-fields answer-size (omega (arith, ok.few))

  -- of bytes where its nonce is,
  pub answer-bytes : AreBytes a.nonce → AreBytes (response a)
  answer-bytes b =
      let root = bytes-leaf (request a.nonce) in
      let srep =
      bytes-encode (srep_fields a) (bytes_le 4 1, (bytes_le 4 _, (bytes_le 8 _, (bytes_le 4 1, (root, tt))))) in
      let dele = bytes-encode (dele_fields a) (bytes-zeros 32, (bytes_le 8 0, (bytes_le 8 _, tt))) in
      let cert = bytes-encode (cert_fields a) (bytes-zeros 64, (dele, tt)) in
      let path = bytes-zeros (32 * a.siblings) in
      bytes-packet _
      (bytes-encode _ (bytes-zeros 64, (b, (bytes_le 4 1, (path, (srep, (cert, (bytes_le 4 _, tt))))))))

  -- RADI is not 0,
  radi-read : 0 < le 4 (le_bytes 4 a.radi) 0
  radi-read = rw (le-written 4 a.radi ok.radi-fits) ok.radi-more

  -- and a good response
  pub answer-good : GoodResponse (response a)
  unfolding among value_among le_bytes le
  answer-good = record {
    fields = answer_fields a;
    packet = answer-packet;
    sig = record { there = refl; right = refl };
    nonc = record { there = refl; right = ok.nonce-long };
    type = record { there = refl; right = refl };
    path = record {
      there = refl;
      right = record { whole = omega (arith, path-long); few = omega (arith, path-long, ok.few) };
    };
    indx = record { there = refl; right = refl };
    srep = record { there = refl; fields = srep_fields a; kept = srep-fields; is = refl };
    ver = record { there = refl; right = refl };
    radi = record { there = refl; right = record { four = refl; more = radi-read } };
    midp = record { there = refl; right = refl };
    vers = record { there = refl; right = versions-good };
    root = record { there = refl; right = length-leaf _ };
    cert = record { there = refl; fields = cert_fields a; kept = cert-fields; is = refl };
    cert-sig = record { there = refl; right = refl };
    dele = record { there = refl; fields = dele_fields a; kept = dele-fields; is = refl };
    pubk = record { there = refl; right = refl };
    mint = record { there = refl; right = refl };
    maxt = record { there = refl; right = refl };
    type-is = refl;
    version = refl;
    listed = version-held;
  }
