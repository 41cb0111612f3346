-- Picking: the places at which a test holds. Depths: how deep the tree of a batch can be. Taken: what a call that
-- refuses nothing was lent. Answers: each answer is what `write_response` writes, passes, and is not longer than its
-- request. Meant: which packets are answered. Fewest: who is left out, and that nobody is disturbed. Alone: what the
-- other packets change of an answer. Found: where a host finds the answers. Contracts: all of it from the contract.
-- Single: that there are such calls.
pub mod Picking
pub mod Depths
pub mod Taken
pub mod Answers
pub mod Meant
pub mod Fewest
pub mod Alone
pub mod Found
pub mod Contracts
pub mod Single
