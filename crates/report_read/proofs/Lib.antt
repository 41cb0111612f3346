-- Laws about the definitions, which the functions' proofs cite.
pub mod Small
pub mod Elements
pub mod Fits
pub mod Rows
pub mod Areas
pub mod Texts
pub mod Piles
pub mod Examples
pub mod Once
