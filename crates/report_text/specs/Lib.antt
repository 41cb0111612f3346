-- A report's text from a text: what a reader must believe is Forwarded.
pub mod Forwarded
pub mod Facts
