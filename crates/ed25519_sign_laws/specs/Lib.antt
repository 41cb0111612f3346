-- What is claimed of `public_of` and `signature_of` of ed25519_sign, by `verifies` of ed25519.
pub mod Signed
