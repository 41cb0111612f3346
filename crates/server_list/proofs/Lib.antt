-- Laws that belong to no one function.
pub mod Exactly
pub mod Matching
pub mod Once
pub mod Seeking
