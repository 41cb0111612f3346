-- The program's text: what a reader must believe is Text.
pub mod Text
