-- That each row of the table holds, by a law for each kind of row (Starred), and that each row speaks of something
-- (Witness). What is made for the latter: requests, responses, records and piles that are good.
pub mod Cutting
pub mod Building
pub mod Checking
pub mod Reading
pub mod Starred
pub mod AreBytes
pub mod MadeRequest
pub mod MadeResponse
pub mod Exchange
pub mod MadeRecord
pub mod Piled
pub mod MadePile
pub mod Witness
