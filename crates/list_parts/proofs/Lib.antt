-- Laws about the definitions, which the functions' proofs cite.
pub mod Items
pub mod Lists
pub mod Given
pub mod Once
