-- Laws about the definitions, which the functions' proofs cite.
pub mod Ahead
pub mod Words
pub mod Finds
pub mod Stands
pub mod Written
pub mod Examples
pub mod Once
