-- The time, though some servers lie. What a reader must believe is State, Used and Answer.
-- Meaning says what is answered in sentences; no contract cites it.
pub mod State
pub mod Used
pub mod Answer
pub mod Meaning
