-- Answers: both signatures of a response verify, and so it passes. Served: when such a response is written; the one to
-- a single request is. Batches: the same of a whole batch, operation by operation.
pub mod Answers
pub mod Served
pub mod Batches
