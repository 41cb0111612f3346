-- Passing has the theorems about one response, Exactly which calls write one, Batches those about a whole batch.
pub mod Granting
pub mod Made
pub mod Passing
pub mod Shortest
pub mod Exactly
pub mod Places
pub mod Delegated
pub mod Batches
