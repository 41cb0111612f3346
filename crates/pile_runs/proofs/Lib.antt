-- Laws that belong to no one function. What the crate claims of itself stands in Find, Pair, WholeNumbers and Once.
pub mod Past
pub mod Told
pub mod Passed
pub mod ByEnds
pub mod Find
pub mod Pair
pub mod SamePile
pub mod WholeNumbers
pub mod Once
