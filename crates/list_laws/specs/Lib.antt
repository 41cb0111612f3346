-- Which texts are server lists, as sentences: what a reader must believe is Listing. What is said of the records of a
-- list: Keys by the servers' keys, Found of the list. What a list says that is written of what is lent: Written.
pub mod Listing
pub mod Written
pub mod Keys
pub mod Found
