-- Laws that belong to no one function.
pub mod Picked
pub mod Meant
pub mod Laid
pub mod Answered
pub mod Rooms
pub mod Batched
pub mod Depths
pub mod Fits
pub mod Left
pub mod Finished
pub mod Ended
pub mod Told
pub mod Once
