-- Laws that belong to no one function. What the crate claims of itself stands in Fed, Passing and Once.
pub mod Verdicts
pub mod Fed
pub mod Passing
pub mod Once
