-- The fields of what a server writes are such as a message may hold.
use mathlib.Core.List.{List}
use mathlib.Core.Path.{◌≡◌, refl}
use Prim.Native.Nat.{ℕ, ◌+◌, ◌%◌, ◌≤◌}
use native.Mathlib.Omega.{arith}
use lib.ListN.{length, length-append}
use Rattle.laws.specs.Any.{any}
use Rattle.laws.specs.Least.{least, somewhere}
use Rattle.laws.specs.Numbers.{le_bytes}
use Rattle.wire_message.specs.Encode.{Fields, values}
use Rattle.wire_message.proofs.FieldsKept.{tags_wrong, fields-kept}
use Rattle.server_parts.specs.Delegation.{dele_fields, cert_fields}
use Rattle.server_response.specs.Response.{Reply, response_fields, response_bytes}
use Rattle.server_parts.specs.Signed.{srep_fields, srep_bytes}
use Rattle.server_response.proofs.Pieces.{Sized, length-response}
use Rattle.server_parts.proofs.Pieces.{length-srep, length-dele}
use Rattle.wire_packet.specs.Good.{PacketFields}
use Rattle.wire_packet.proofs.PacketFields.{fields-packed}

pub srep-kept : (root : List ℕ) (midp radi : ℕ) → length root ≡ 32 → Fields (srep_fields root midp radi)
unfolding tags_wrong any somewhere least le_bytes values
srep-kept root midp radi r32 =
    let n : length (values (srep_fields root midp radi)) ≡ 52 = simp (length-append, r32) in
    fields-kept _ refl (refl, (refl, (refl, (refl, (omega arith, tt))))) (omega arith)

pub dele-kept : (pubk : List ℕ) (mint maxt : ℕ) → length pubk ≡ 32 → Fields (dele_fields pubk mint maxt)
unfolding tags_wrong any somewhere least le_bytes values
dele-kept pubk mint maxt k32 =
    let n : length (values (dele_fields pubk mint maxt)) ≡ 48 = simp (length-append, k32) in
    fields-kept _ refl (omega arith, (refl, (refl, tt))) (omega arith)

pub cert-kept : (pubk : List ℕ) (mint maxt : ℕ) (signature : List ℕ) → length pubk ≡ 32 → length signature ≡ 64
    → Fields (cert_fields pubk mint maxt signature)
unfolding tags_wrong any somewhere least values
cert-kept pubk mint maxt signature k32 s64 =
    let d = length-dele pubk mint maxt k32 in
    let n : length (values (cert_fields pubk mint maxt signature)) ≡ 136 = simp (length-append, s64, d) in
    fields-kept _ refl (omega arith, (omega arith, tt)) (omega arith)

-- a response with a path and a CERT of whole fours, that has at most 2,000 bytes
module _ (a : Reply) (ok : Sized a) (path : length a.path % 4 ≡ 0) (cert : length a.cert % 4 ≡ 0)
    (short : length (response_bytes a) ≤ 2000) where
  srep-long : length (srep_bytes a.root a.midp a.radi) ≡ 92
  srep-long = length-srep a.root a.midp a.radi ok.root-long

  size : length (values (response_fields a)) ≡ 196 + length a.path + length a.cert
  unfolding values le_bytes
  size = simp (length-append, ok.signature-long, ok.nonce-long, srep-long) (omega arith)

  fits : 56 + (196 + length a.path + length a.cert) ≤ 1988
  fits = omega (arith, length-response a ok)

  pub response-kept : Fields (response_fields a)
  unfolding tags_wrong any somewhere least le_bytes
  response-kept =
      fields-kept _ refl (
        omega (arith, ok.signature-long),
        (
          omega (arith, ok.nonce-long),
          (refl, (path, (omega (arith, srep-long), (cert, (refl, tt))))),
        ),
      ) (omega (arith, size, fits))

  pub response-packet : PacketFields (response_bytes a) (response_fields a)
  unfolding response_bytes
  response-packet = fields-packed _ (196 + length a.path + length a.cert) response-kept size fits
