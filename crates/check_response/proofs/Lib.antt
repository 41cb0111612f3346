-- Laws that belong to no one function.
pub mod Lent
pub mod Downgrade
pub mod Exactly
pub mod Places
pub mod Once
