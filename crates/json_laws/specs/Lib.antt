-- RFC 8259's grammar as the RFC writes it, and what a text means that derives from it. No contract cites either:
-- proofs/ shows that the readers of json accept just what the grammar derives, and find what it means.
pub mod Rules
pub mod Abnf
pub mod Tree
