-- RFC 8032, sections 5.1.5 and 5.1.6: the public key of a private key, and the signature of a message. Ed25519 itself:
-- no context, no prehash. A private key is the seed of 32 bytes that everything else is made of; the definitions take
-- any list.
use Rattle.std.specs.Prelude.{ℕ, ◌+◌, ◌*◌, ◌/◌, ◌%◌, ◌^◌, cond, List, ◌++◌, ltb, length, take, drop, get_or, set, replicate}
use Rattle.laws.specs.Numbers.{le, le_bytes}
use Rattle.sha512.specs.Computation.{Sha512}
use Rattle.ed25519_curve.specs.Points.{base}
use Rattle.ed25519_scalar.specs.Order.{L}
use Rattle.ed25519_point.specs.Encoding.{encode_of}
use Rattle.ed25519_group_laws.specs.Affine.{times_of, point_of}
use Rattle.ed25519.specs.Verification.{k_of}

-- ---- 5.1.5, the public key

-- step 2: "Prune the buffer: The lowest three bits of the first octet are cleared, the highest bit of the last octet is
-- cleared, and the second highest bit of the last octet is set." The buffer is 32 bytes, of which the last is byte 31.
unfoldable pub pruned : List ℕ → List ℕ
pruned h = set (set h 0 (get_or h 0 0 / 8 * 8)) 31 (get_or h 31 0 % 64 + 64)

-- steps 1 and 3: "Hash the 32-byte private key using SHA-512, storing the digest in a 64-octet large buffer, denoted h.
-- Only the lower 32 bytes are used for generating the public key." "Interpret the buffer as the little-endian integer,
-- forming a secret scalar s."
unfoldable pub scalar_of : List ℕ → ℕ
scalar_of seed = le 32 (pruned (take 32 (Sha512 seed))) 0

-- the encoding of the point [n]B (5.1.2)
unfoldable pub encoded_times : ℕ → List ℕ
encoded_times n = encode_of (times_of n (point_of base)).x (times_of n (point_of base)).y

-- steps 3 and 4: "Perform a fixed-base scalar multiplication [s]B." "The public key A is the encoding of the point
-- [s]B."
unfoldable pub public_of : List ℕ → List ℕ
public_of seed = encoded_times (scalar_of seed)

-- ---- 5.1.6, the signature

-- step 1: "Let prefix denote the second half of the hash digest, h[32],...,h[63]."
abbrev pub prefix_of : List ℕ → List ℕ
prefix_of seed = drop 32 (Sha512 seed)

-- step 2: "Compute SHA-512(dom2(F, C) || prefix || PH(M)), where M is the message to be signed. Interpret the 64-octet
-- digest as a little-endian integer r." For Ed25519 dom2 is empty and PH(M) is M. It is taken modulo L at once, as step
-- 3 has it: "For efficiency, do this by first reducing r modulo L, the group order of B."
unfoldable pub r_of : List ℕ → List ℕ → ℕ
r_of seed M = le 64 (Sha512 (prefix_of seed ++ M)) 0 % L

-- step 3: "Compute the point [r]B." "Let the string R be the encoding of this point."
unfoldable pub first_half : List ℕ → List ℕ → List ℕ
first_half seed M = encoded_times (r_of seed M)

-- step 4: "Compute SHA512(dom2(F, C) || R || A || PH(M)), and interpret the 64-octet digest as a little-endian integer
-- k." That is 5.1.7's, which takes it modulo L. Step 5: "Compute S = (r + k * s) mod L. For efficiency, again reduce k
-- modulo L first."
unfoldable pub number_s : List ℕ → List ℕ → ℕ
number_s seed M = (r_of seed M + k_of (first_half seed M) (public_of seed) M * scalar_of seed) % L

-- step 6: "Form the signature of the concatenation of R (32 octets) and the little-endian encoding of S (32 octets; the
-- three most significant bits of the final octet are always zero)."
unfoldable pub signature_of : List ℕ → List ℕ → List ℕ
signature_of seed M = first_half seed M ++ le_bytes 32 (number_s seed M)

-- The same of a text in two parts, one after the other. Where R, A and the text come to more than 2^64 - 1 bytes, which
-- is as many as a message in pieces may have, 64 zero bytes: no host has such a text, and nothing is refused.
unfoldable pub signature_parts : List ℕ → List ℕ → List ℕ → List ℕ
signature_parts seed context value =
    cond (ltb (64 + (length context + length value)) (2 ^ 64)) (signature_of seed (context ++ value)) (replicate 64 0)
