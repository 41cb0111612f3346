-- Laws that belong to no one function. What the crate claims of itself stands in Exactly and Once.
pub mod Exactly
pub mod Once
