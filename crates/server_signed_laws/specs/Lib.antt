-- A server with two seeds: what is made of them is Signer, and a batch that is signed so, operation by operation, is
-- SignedRound.
pub mod Signer
pub mod SignedRound
