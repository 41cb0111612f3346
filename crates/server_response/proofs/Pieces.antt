-- The two pieces of a response that the writer puts into the buffer, one after the other: they are the packet of its
-- fields.
use Prim.Native.Nat.{ℕ, ◌+◌}
use mathlib.Core.Path.{◌≡◌, ap, ◌∙◌}
use mathlib.Core.List.{List, [], ◌∷◌, ◌++◌, append_assoc}
use native.Mathlib.Omega.{arith}
use lib.ListN.{length, length-append}
use Rattle.laws.specs.Numbers.{le_bytes}
use Rattle.wire_message.specs.Encode.{words, starts, offsets, tags, values, encode}
use Rattle.wire_message.specs.Tags.{SIG, NONC, TYPE, PATH, SREP, CERT, INDX}
use Rattle.server_parts.specs.Signed.{srep_bytes}
use Rattle.server_parts.proofs.Pieces.{length-srep}
use Rattle.wire_packet.specs.Packet.{mark, packet_of}
use Rattle.wire_packet.proofs.Packets.{length-packet}
use Rattle.server_response.specs.Response.{Reply, nonce_of, response_fields, response_bytes}
use Rattle.server_response.specs.Steps.{front_bytes, behind_bytes, rest_bytes}

-- ---- the two pieces, from the left

abbrev pub front-words : ℕ → ℕ → List ℕ
front-words p c =
    words
    ((252 + p + c)
    ∷ 7
    ∷ 64
    ∷ 96
    ∷ 100
    ∷ (100 + p)
    ∷ (192 + p)
    ∷ (192 + p + c)
    ∷ SIG
    ∷ NONC
    ∷ TYPE
    ∷ PATH
    ∷ SREP
    ∷ CERT
    ∷ INDX
    ∷ [])

pub front-is : (signature nonce : List ℕ) (p c : ℕ) → front_bytes signature nonce p c
    ≡ (((mark ++ front-words p c) ++ signature) ++ nonce) ++ words (1 ∷ [])
unfolding front_bytes
front-is signature nonce p c = simp append_assoc

pub behind-is : (root : List ℕ) (midp radi : ℕ) (cert : List ℕ) (indx : ℕ) → behind_bytes root midp radi cert indx
    ≡ (srep_bytes root midp radi ++ cert) ++ words (indx ∷ [])
unfolding behind_bytes
behind-is root midp radi cert indx = simp append_assoc

pub length_front : (signature nonce : List ℕ) (p c : ℕ) → length signature ≡ 64 → length nonce ≡ 32
    → length (front_bytes signature nonce p c) ≡ 168
unfolding words le_bytes
length_front signature nonce p c s64 n32 = ap length (front-is signature nonce p c) ∙ simp (length-append, s64, n32)

pub length-behind : (root : List ℕ) (midp radi : ℕ) (cert : List ℕ) (indx : ℕ) → length root ≡ 32
    → length (behind_bytes root midp radi cert indx) ≡ 96 + length cert
unfolding words le_bytes
length-behind root midp radi cert indx r32 =
    ap length (behind-is root midp radi cert indx)
    ∙ simp (length-append, length-srep root midp radi r32) (omega arith)

pub length-end : (cert : List ℕ) (indx : ℕ) → length (cert ++ words (indx ∷ [])) ≡ length cert + 4
unfolding words le_bytes
length-end cert indx = length-append cert (words (indx ∷ []))

-- ---- the response

-- what the types of the call say, and the request's nonce
pub record Sized (a : Reply) : Type 0 where
  pub nonce-long : length (nonce_of a) ≡ 32
  pub root-long : length a.root ≡ 32
  pub signature-long : length a.signature ≡ 64

module _ (a : Reply) (ok : Sized a) where
  abbrev p : ℕ
  p = length a.path

  abbrev c : ℕ
  c = length a.cert

  abbrev heading : List ℕ
  heading =
      7 ∷ 64 ∷ 96 ∷ 100 ∷ (100 + p) ∷ (192 + p) ∷ (192 + p + c) ∷ SIG ∷ NONC ∷ TYPE ∷ PATH ∷ SREP ∷ CERT ∷ INDX ∷ []

  message-is : encode (response_fields a) ≡ words heading ++ values (response_fields a)
  unfolding encode offsets starts tags le_bytes
  message-is = rw (ok.signature-long, ok.nonce-long, length-srep a.root a.midp a.radi ok.root-long)
      (let e : 100 + p + 92 ≡ 192 + p = omega arith in rw e)

  length-message : length (encode (response_fields a)) ≡ 252 + p + c
  unfolding words le_bytes values
  length-message =
      ap length message-is
      ∙ simp (
        length-append,
        ok.signature-long,
        ok.nonce-long,
        length-srep a.root a.midp a.radi ok.root-long,
      ) (omega arith)

  -- the two pieces
  pub response-is : response_bytes a
      ≡ front_bytes a.signature (nonce_of a) p c ++ rest_bytes a.path a.root a.midp a.radi a.cert a.indx
  unfolding response_bytes packet_of front_bytes rest_bytes behind_bytes words le_bytes values
  response-is = rw (length-message, message-is) (simp append_assoc)

  -- the same as they are put
  pub response-parts : response_bytes a
      ≡ ((front_bytes a.signature (nonce_of a) p c ++ a.path) ++ srep_bytes a.root a.midp a.radi)
      ++ (a.cert ++ words (a.indx ∷ []))
  unfolding rest_bytes behind_bytes
  response-parts = response-is ∙ simp append_assoc

  -- 264 bytes, the path and CERT
  pub length-response : length (response_bytes a) ≡ 264 + length a.path + length a.cert
  unfolding response_bytes
  length-response = length-packet (encode (response_fields a)) ∙ omega (arith, length-message)
