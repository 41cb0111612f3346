-- Laws that belong to no one function.
pub mod Sample
pub mod Once
