-- Laws about the definitions, which the functions' proofs cite; and what holds of writing and reading.
pub mod Puts
pub mod Objects
pub mod Heads
pub mod Lists
pub mod Piles
pub mod Records
pub mod Letters
pub mod Round
pub mod Again
pub mod RoundTrip
pub mod Once
