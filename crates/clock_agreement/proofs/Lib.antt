-- Laws that belong to no one function. Exactly and Once have what the crate claims of itself.
pub mod Many
pub mod Counts
pub mod Sets
pub mod Inside
pub mod Best
pub mod Lists
pub mod Edges
pub mod AnswerLaws
pub mod Exactly
pub mod Once
