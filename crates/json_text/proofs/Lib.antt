-- Laws about the definitions, which the functions' proofs cite.
pub mod Joins
pub mod Sizes
pub mod Letters
pub mod Fills
pub mod Ascii
pub mod Again
pub mod Wide
pub mod NoEscapes
pub mod Once
pub mod Examples
