-- What the contracts of json_strings cite: RFC 8259's strings, and what they hold.
pub mod Text
pub mod Sizes
