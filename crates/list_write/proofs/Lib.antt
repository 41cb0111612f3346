-- The proofs of list_write.
pub mod Flats
pub mod Spelling
pub mod Feeds
pub mod Tests
pub mod Lends
pub mod Openings
pub mod Arrays
pub mod Answering
pub mod Once
