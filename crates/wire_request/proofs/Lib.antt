-- Laws that belong to no one function.
pub mod Answered
pub mod Exactly
pub mod Once
pub mod RequestPieces
pub mod ReadBack
