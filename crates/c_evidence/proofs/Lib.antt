-- Laws that belong to no one function. What the crate claims of itself stands in Outcomes.
pub mod Outcomes
