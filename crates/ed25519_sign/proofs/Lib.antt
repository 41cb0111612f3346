-- Pruned: a pruned scalar is below 2^255; Dividing: coordinates, divided by Z, are those of the point that they stand
-- for; Numbers: S by remainders, and numbers in 32 bytes; Steps: the steps together make what 5.1.5 and 5.1.6 define;
-- Once: the contracts of the public functions settle their results.
pub mod Pruned
pub mod Dividing
pub mod Numbers
pub mod Steps
pub mod Once
