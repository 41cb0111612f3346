-- Server lists: what a reader must believe is Lists and Lookup. Meaning is document 01's sentences, proved of them.
pub mod Lists
pub mod Lookup
pub mod Meaning
