-- Laws about the definitions, which the functions' proofs cite.
pub mod Tests
pub mod Digits
pub mod Scans
pub mod Sizes
pub mod Split
pub mod Counts
pub mod Lower
pub mod Schemes
pub mod Rest
pub mod Tails
pub mod Lines
pub mod Pieces
pub mod Bracketed
pub mod Exactly
pub mod Examples
pub mod Once
