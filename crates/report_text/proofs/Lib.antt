-- Each contract settles its result, and what is left in the lent buffer.
pub mod Cuts
pub mod Lengths
pub mod Once
