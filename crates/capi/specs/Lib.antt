-- What the exports promise whose answers are told by cases, and a state that crosses as its fields. The structs, and
-- what is told in each, are in `c_packets` and `c_evidence`.
pub mod Clocking
pub mod Pieces
pub mod Piling
pub mod Publishing
pub mod Reusing
pub mod Tallying
pub mod Walking
