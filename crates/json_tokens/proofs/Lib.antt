-- Laws about the definitions, which the functions' proofs cite.
pub mod Picks
pub mod While
pub mod Turns
pub mod Ahead
pub mod Counted
pub mod Lone
pub mod Stands
pub mod Once
