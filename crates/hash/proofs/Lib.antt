-- What the crates above know of these hashes: that each has 32 bytes, and that pieces come to the whole.
pub mod Lengths
pub mod Once
pub mod Whole
