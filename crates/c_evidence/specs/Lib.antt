-- What the answers on piles, reports and walks are at the C boundary: each struct, from the answer that it tells.
-- Beside a refusal stand zeros, but for the byte place that it carries and the place of a record.
pub mod Piling
pub mod Publishing
pub mod Signing
pub mod Walking
