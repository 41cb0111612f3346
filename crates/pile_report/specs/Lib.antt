-- Reports and the cutter (document 01, "Piles and reports"): what a reader must believe is Report and Taking. Meaning
-- is document 01's sentence on reports, and all of it but the pair. It is proved to hold exactly where the check names
-- a pair; and a run is proved to convict exactly where its records, cut out, are a report by that sentence. Promises is
-- what private functions promise each other; nothing public is stated by it.
pub mod Report
pub mod Taking
pub mod Meaning
pub mod Promises
