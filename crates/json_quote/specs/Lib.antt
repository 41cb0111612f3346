-- What json_quote's contracts cite: which octets are UTF-8, the string of a text, and what is left of a buffer's room.
pub mod Utf8
pub mod Quoted
pub mod Room
