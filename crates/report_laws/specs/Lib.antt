-- Which texts are reports in the public format, as sentences: what a reader must believe is Reported.
pub mod Reported
