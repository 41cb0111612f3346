-- More evidence never acquits (request P14): what is added to a pile, and what may be answered then.
pub mod Grown
