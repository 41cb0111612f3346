-- H, and what Roughtime takes it of: what a reader must believe is Hashes.
pub mod Hashes
