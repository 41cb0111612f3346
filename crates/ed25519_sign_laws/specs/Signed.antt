-- What is claimed of the public key of a seed, and of the signature of a text that is made with it.
use Rattle.std.specs.Prelude.{ℕ, ◌+◌, ◌*◌, ◌%◌, ◌^◌, ◌<◌, ◌≡◌, true, List, ◌++◌, ◌↔◌, length, drop}
use Rattle.laws.specs.Bytes.{Bytes}
use Rattle.laws.specs.Numbers.{le}
use Rattle.ed25519_scalar.specs.Order.{L}
use Rattle.ed25519_point.specs.Decoding.{decode_of}
use Rattle.ed25519_prime_laws.specs.Encodes.{Encodes}
use Rattle.ed25519_group_laws.specs.Affine.{Affine, zero_point, times_of}
use Rattle.ed25519.specs.Verification.{verifies, verifies_parts}
use Rattle.ed25519_sign.specs.Signing.{public_of, signature_of, signature_parts}

-- RFC 8032, section 3, of the parameter n: "Secret EdDSA scalars have exactly n + 1 bits, with the top bit (the 2^n
-- position) always set and the bottom c bits always cleared." Of Ed25519 n is 254 and c is 3 (5.1, table 1).
pub record SecretScalar (s : ℕ) : Type 0 where
  pub between : ℕ
  pub low : between < 2 ^ 251
  pub is : s ≡ 2 ^ 254 + 8 * between

-- the public key: 32 bytes that are the encoding of a point of the curve, and so decode. That point has the order L, as
-- B has: it is none of the points of small order.
pub record PublicKey (seed : List ℕ) : Type 0 where
  pub long : length (public_of seed) ≡ 32
  pub bytes : Bytes (public_of seed)
  pub A : Affine
  pub A-is : Encodes (public_of seed) A.x A.y
  pub decodes : (decode_of (public_of seed)).ok ≡ true
  pub order : (n : ℕ) → times_of n A ≡ zero_point ↔ (n % L ≡ 0)

-- the signature of a text: 64 bytes, with S below L, that verify under the public key
pub record Signed (seed text : List ℕ) : Type 0 where
  pub long : length (signature_of seed text) ≡ 64
  pub bytes : Bytes (signature_of seed text)
  pub S-below : le 32 (drop 32 (signature_of seed text)) 0 < L
  pub verified : verifies (public_of seed) text (signature_of seed text) ≡ true

-- that of a text in two parts, of fewer than 2^64 bytes with R and A: it is that of the text, and verifies as such
pub record SignedParts (seed context value : List ℕ) : Type 0 where
  pub whole : signature_parts seed context value ≡ signature_of seed (context ++ value)
  pub verified : verifies_parts (public_of seed) context value (signature_parts seed context value) ≡ true
