-- A walk among servers that sign with their own seeds: what a reader must believe is Tour.
pub mod Tour
