-- Laws about the definitions.
pub mod Tables
pub mod Codec
pub mod Encodes
pub mod Decodes
pub mod Unique
pub mod Once
