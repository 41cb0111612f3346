-- What the proofs share.
pub mod Masks
pub mod Square
