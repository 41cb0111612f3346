-- What we write: what a reader must believe is Answered, Request and Texts.
pub mod Answered
pub mod Request
pub mod Texts
