-- Affine is section 3's addition over points (x, y), and multiples by it.
pub mod Affine
-- What the theorems speak of:
pub mod Group
pub mod Standing
