-- Laws that belong to no one function. What the crate claims of itself stands in Exactly, Codes, CutReports,
-- Stands, Agree, Unread and Once.
pub mod SameArrays
pub mod Verdicts
pub mod Says
pub mod Runs
pub mod Exactly
pub mod Sound
pub mod Codes
pub mod Behind
pub mod CutBytes
pub mod CutRecords
pub mod CutReports
pub mod CutStands
pub mod Agree
pub mod Unread
pub mod Once
