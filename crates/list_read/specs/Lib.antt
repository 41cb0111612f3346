-- What list_read's contracts cite: a server list by draft 19, section 8.3, and what is read of it. Facts is for the
-- private functions and for the crates that read parts of a list.
pub mod Server
pub mod Listed
pub mod Read
pub mod Facts
