-- What holds of reports in the public format.
pub mod Reported
pub mod Codes
pub mod Bytes
pub mod CutText
pub mod Longest
pub mod Written
