-- A call that answers a batch: what it is lent and what it answers is Call; what is claimed of an answer is Claims;
-- one call, of a single packet, is Single.
pub mod Call
pub mod Claims
pub mod Single
