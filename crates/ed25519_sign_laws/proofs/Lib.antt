-- Scalars: the secret scalar is as section 3 says, and no multiple of L. Keys: a public key is the encoding of a point,
-- of order L. Verifying: what is signed verifies. Parts: the same of a text in two parts. Bytes is about lists alone.
pub mod Bytes
pub mod Scalars
pub mod Keys
pub mod Verifying
pub mod Parts
