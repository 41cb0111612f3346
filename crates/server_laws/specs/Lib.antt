-- Which calls of the writer a server may make, and what it is told to write, as sentences: what a reader must believe
-- is Answerable and Round.
pub mod Answerable
pub mod Round
