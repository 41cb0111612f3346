-- Laws that belong to no one function.
pub mod AnswerLaws
pub mod Rounding
pub mod Exactly
pub mod Once
