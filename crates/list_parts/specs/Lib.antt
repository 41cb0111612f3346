-- What list_parts' contracts cite: the parts of a server list by their places. Facts is for the private functions.
pub mod Parts
pub mod Facts
