-- Laws that belong to no one function. What the crate claims of itself stands in Once, Fed and Verified, and of Last in
-- `until-take`.
pub mod Last
pub mod Once
pub mod Fed
pub mod Verified
