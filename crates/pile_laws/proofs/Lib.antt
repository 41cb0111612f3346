-- What is kept of a pile to which records are added (Kept), and the theorems of request P14 (Grows, Sentences).
pub mod Kept
pub mod Grows
pub mod Sentences
