-- The response that a server writes (request P1; draft 19, 5.2), as fields: what a reader must believe is Response and
-- Refusing. Facts and Steps are what private functions ask and promise; no operation is stated by them.
pub mod Response
pub mod Refusing
pub mod Facts
pub mod Steps
