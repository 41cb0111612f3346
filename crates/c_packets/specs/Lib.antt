-- What the answers of the library are at the C boundary: each struct, from the answer that it tells. Beside a refusal
-- stand zeros, but for the byte place that it carries; of a key, the zeros that the check itself hands out.
pub mod Batching
pub mod Building
pub mod Clocking
pub mod Finding
pub mod Judging
pub mod Reading
pub mod Stamping
pub mod Writing
