-- Contradiction in one pass (request P14). What a reader must believe is EveryPair and Kept.
-- Whole is the pass in the request's own words, in whole numbers. It is proved to say what the every-pair check says.
-- Examples are document 01's windows, through both.
pub mod EveryPair
pub mod Kept
pub mod Whole
pub mod Examples
