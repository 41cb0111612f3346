-- What a console asks of answers that it kept (request P9): what a reader must believe is Reuse.
pub mod Reuse
