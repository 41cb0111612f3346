-- Laws about groups of characters.
pub mod Quads
pub mod Lettered
pub mod Fills
pub mod Once
