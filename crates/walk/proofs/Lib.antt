-- Laws that belong to no one function. What the crate claims of itself stands in Codes, Once, History and Ending.
pub mod Passed
pub mod Accepting
pub mod Lengths
pub mod Requests
pub mod RecordLaid
pub mod Checked
pub mod Taken
pub mod Codes
pub mod Answering
pub mod Once
pub mod Standing
pub mod History
pub mod Ending
