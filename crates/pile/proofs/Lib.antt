-- Laws that belong to no one function. What the crate claims of itself stands in Exactly, Recorded, Codes and Once.
pub mod Wholes
pub mod Judges
pub mod Reaching
pub mod Exactly
pub mod Recorded
pub mod Codes
pub mod Places
pub mod Once
pub mod Scans
