-- Laws that belong to no one function. What the crate claims of itself stands in EveryPairs, Goes, OnePass, Seen and
-- Once.
pub mod Most
pub mod EveryPairs
pub mod Goes
pub mod OnePass
pub mod Turns
pub mod Seen
pub mod Once
