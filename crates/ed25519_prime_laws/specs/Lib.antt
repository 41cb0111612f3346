-- What the theorems of this crate speak of, beside the definitions of ed25519_field, _curve and _point. Encodes may be
-- believed in the place of Decoding of ed25519_point (`decodes-exactly`).
pub mod Prime
pub mod Encodes
