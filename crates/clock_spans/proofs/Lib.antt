-- Laws that belong to no one function. Once has what the crate claims of itself.
pub mod Parts
pub mod Once
