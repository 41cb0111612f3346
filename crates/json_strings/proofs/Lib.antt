-- Laws about the definitions, which the functions' proofs cite.
pub mod Units
pub mod TwoDigits
pub mod Ahead
pub mod Content
pub mod Runs
pub mod Sizes
pub mod Plain
pub mod Once
pub mod Examples
