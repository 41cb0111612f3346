-- Laws that belong to no one function. Pieces has the pieces that the writers put, one after the other: they are the
-- messages of their fields.
pub mod Words
pub mod Pieces
pub mod Once
