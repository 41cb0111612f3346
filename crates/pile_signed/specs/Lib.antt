-- The checks that need no answers: what a reader must believe is Answers, beside what the checks with lent answers say.
-- Meaning is document 01's sentences with "verifies under the key" for a yes.
pub mod OwnAnswers
pub mod Meaning
