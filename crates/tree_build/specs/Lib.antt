-- Draft 19, section 5.3, document 01, "Hash and tree", and requests P2 and P6, from a server's side: what a reader must
-- believe is AllRows, Leaves and Building. Level is what private functions, and those for the crate above, cite on the
-- way; no operation is stated by it.
pub mod AllRows
pub mod Leaves
pub mod Building
pub mod Level
