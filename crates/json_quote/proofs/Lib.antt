-- The proofs of json_quote.
pub mod Putting
pub mod Rooms
pub mod Quotes
pub mod Chars
pub mod Once
pub mod RoundTrip
