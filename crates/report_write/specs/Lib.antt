-- A report's text: what a reader must believe is Entries, Text and Published. Pieces is what private functions say.
pub mod Entries
pub mod Text
pub mod Pieces
pub mod Published
