-- The whole way from a walk to whoever judges its report: what a reader must believe is Verified, Hearing, Lent, Way
-- and Rounds.
pub mod Verified
pub mod Hearing
pub mod Lent
pub mod Way
pub mod Rounds
