-- Piles: what a reader must believe is Layout, Pile, Valid, Links, and of Meaning `GoodPile`, by which reports and the
-- cutter are stated. The rest of Meaning is the same as sentences, proved to hold exactly where these refuse nothing.
-- Recording is a record from the writer's side. Facts is what private functions ask of their callers.
pub mod Layout
pub mod Pile
pub mod Recording
pub mod Valid
pub mod Links
pub mod Meaning
pub mod Facts
