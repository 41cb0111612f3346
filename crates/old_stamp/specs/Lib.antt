-- Timestamps of the 2021 draft (source document 002, 5.1.5) as request P12 reads them: a reader must believe Stamp and
-- Window. Meaning has the request's sentences on the two ends, which are proved of them.
pub mod Stamp
pub mod Window
pub mod Meaning
