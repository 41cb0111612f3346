-- The true time, and who is honest: what the theorems on the clock are about. A reader must believe Truth, History and
-- Walked; Meaning has what is concluded, in sentences.
pub mod Truth
pub mod History
pub mod Walked
pub mod Meaning
