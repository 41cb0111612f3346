-- Laws that belong to no one function. What the crate claims of itself stands in Exactly, Halves and Once.
pub mod Width
pub mod Climbs
pub mod Exactly
pub mod Nodes
pub mod Halves
pub mod Once
