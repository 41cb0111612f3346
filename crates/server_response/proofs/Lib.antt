-- Laws that belong to no one function.
pub mod Pieces
pub mod Certified
pub mod Replied
pub mod Once
