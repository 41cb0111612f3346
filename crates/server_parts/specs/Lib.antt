-- What a server's keys sign (request P1; draft 19, 5.2.5 and 5.2.6), as fields: what a reader must believe is Signed
-- and Delegation.
pub mod Signed
pub mod Delegation
