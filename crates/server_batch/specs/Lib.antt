-- A whole batch in one call (draft 19, 5.2, 5.2.1 and 5.3): what a reader must believe is Picking, Batch and Answering.
-- Steps is what private functions ask and promise; no operation is stated by it.
pub mod Picking
pub mod Batch
pub mod Answering
pub mod Steps
