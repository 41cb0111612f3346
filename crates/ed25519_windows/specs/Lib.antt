-- The definitions that the contracts of this crate's helpers cite: the digits of a scalar, and the multiples.
pub mod OddDigits
pub mod Windows
