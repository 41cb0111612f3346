-- Contradiction and the runs that convict (document 01, "Piles and reports").
-- What a reader must believe is Clash, Spans, Told and Convict. Alike is what a theorem about them asks. Searched is
-- what private functions promise each other.
pub mod Clash
pub mod Told
pub mod Spans
pub mod Convict
pub mod Alike
pub mod Searched
