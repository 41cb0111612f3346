-- Laws about the definitions, which the functions' proofs cite.
pub mod Small
pub mod Items
pub mod Integers
pub mod Parts
pub mod Tallying
pub mod Surveying
pub mod Records
pub mod Examples
pub mod Once
