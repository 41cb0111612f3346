-- An accepted pile goes the whole way (Way); the signatures of a walk's pile verify (Verified); and so what a walk saw
-- convicts (Convicted), with no word on signatures where take_signed heard it (Hearing). Lent is that the
-- answers lent on the way do as well as all yes, Rounds whose records it has, and Contracts that all of it is about the
-- library's operations.
pub mod Way
pub mod Verified
pub mod Convicted
pub mod Hearing
pub mod Lent
pub mod Rounds
pub mod Contracts
