-- Laws that belong to no one function. Exact has the format's theorem: what the reader takes is what the writer's side
-- lays out, and nothing else. Codes has each of the codes 4 to 7 by its sentences.
pub mod Edges
pub mod Scans
pub mod Tests
pub mod Cases
pub mod Codes
pub mod Places
pub mod Positions
pub mod Encoded
pub mod Decoded
pub mod Exact
pub mod FieldRows
pub mod FieldsKept
pub mod Once
