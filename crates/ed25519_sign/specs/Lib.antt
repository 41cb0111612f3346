-- RFC 8032, sections 5.1.5 and 5.1.6. For `public_of` and `signature_of` a reader must believe this file, Affine of
-- ed25519_group_laws (section 3: the sum of two points, and [n]P), Encoding of ed25519_point (5.1.2) and `k_of` in
-- Verification of ed25519 (5.1.7). He must also believe Points of ed25519_curve (5.1, B), Order of ed25519_scalar (5.1,
-- L), Field of ed25519_field (5.1, 5.1.1) and `Sha512` of sha512 with what it names. `le` and `le_bytes` in Numbers of
-- laws read and write a number in bytes. That what is signed verifies is proved in ed25519_sign_laws.
pub mod Signing
-- What only contracts of helpers cite:
pub mod Steps
