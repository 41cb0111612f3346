-- Document 01's starred examples, as rows of one table; and what it is that each row speaks of something.
pub mod Claims
pub mod Table
pub mod Spoken
