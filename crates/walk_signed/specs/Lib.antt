-- The measuring walk with no answers lent: what a reader must believe is Heard, beside what the walk's taker says.
pub mod Heard
