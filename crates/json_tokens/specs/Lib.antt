-- What the contracts of json_tokens cite: RFC 8259's grammar but for strings and values, as readers that answer the
-- place past what they read, and how lists are read by turns.
pub mod Scan
pub mod Walk
pub mod Number
