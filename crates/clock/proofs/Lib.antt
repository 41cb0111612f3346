-- Laws that belong to no one function. Exactly and Once have what the crate claims of itself; what holds of the time
-- that is told, where servers are honest, stands in a crate of its own.
pub mod Places
pub mod Takes
pub mod AnswerLaws
pub mod Exactly
pub mod Once
