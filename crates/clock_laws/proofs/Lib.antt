-- The theorems: Told has those on the time that is told, Stories the same of any state, Walked that with a walk, Stays
-- what waiting does, Receipts which moments come too early, and Possible that none of this is empty. The others are the
-- way to them.
pub mod Inside
pub mod Sound
pub mod Places
pub mod Taking
pub mod Stories
pub mod Told
pub mod Stays
pub mod Receipts
pub mod First
pub mod Walked
pub mod Possible
