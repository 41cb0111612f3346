-- Totals and OddDigits: the digits of a scalar; Coordinates: additions and rows stand for what they should; BaseRows:
-- rows of the base point; Tables: rows of any point; Counts: what digits make of two points; Pairs: a turn of the loop.
pub mod Totals
pub mod OddDigits
pub mod Coordinates
pub mod BaseRows
pub mod Tables
pub mod Counts
pub mod Pairs
