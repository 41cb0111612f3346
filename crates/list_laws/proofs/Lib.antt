-- What holds of lists of servers.
pub mod Keys
pub mod Found
pub mod Strings
pub mod Listed
pub mod Told
pub mod Codes
pub mod Low
pub mod Derived
pub mod Decimals
pub mod Servers
pub mod RoundTrip
pub mod Again
