-- The measuring walk (draft 19, 8.2; request P10): what a reader must believe is State, Starting, Asking and Taking.
-- Trace says which states and buffers a caller can come to, for the theorem of the walk, and Standing what is shown of
-- each of them on the way to it; no contract cites these two.
pub mod State
pub mod Starting
pub mod Asking
pub mod Taking
pub mod Trace
pub mod Standing
