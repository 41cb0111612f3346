-- What the answers on server lists are at the C boundary: each struct, from the answer that it tells. Beside a refusal
-- stand zeros.
pub mod Listing
