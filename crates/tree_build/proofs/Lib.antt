-- Laws that belong to no one function. What the crate claims of itself stands in Leads, Built, Served, Sizes
-- and Once.
pub mod Leads
pub mod Depths
pub mod Leaves
pub mod Filling
pub mod Writing
pub mod Ascending
pub mod Reading
pub mod AllRows
pub mod BuildingLaws
pub mod Built
pub mod Served
pub mod Sizes
pub mod Once
