-- The lines of the program's text: what a reader must believe is Line.
pub mod Line
