-- Where servers agree (Marzullo 1984): what a reader must believe is Many, Count and Agreement.
-- Meaning says the same in sentences; no contract cites it.
pub mod Many
pub mod Count
pub mod Agreement
pub mod Meaning
