-- Laws that belong to no one function. What the crate claims of itself stands in Fed, Whatever, Alone, OwnRuns and
-- Once, and of Own in `own-bad-exactly`.
pub mod Own
pub mod Fed
pub mod Whatever
pub mod Alone
pub mod OwnRuns
pub mod Once
