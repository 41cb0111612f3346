-- What a window that was kept says of a later moment: a reader must believe Drift and Spans.
pub mod Drift
pub mod Spans
