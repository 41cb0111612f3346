-- What list_write's contracts cite: what is lent, which lines are good, the text that is written, and the answers.
-- Lending and Facts are for the private functions.
pub mod Decimal
pub mod Lines
pub mod Given
pub mod Texts
pub mod Lent
pub mod Lending
pub mod Facts
pub mod Answers
