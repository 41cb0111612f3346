-- The signatures of a response: what a reader must believe is Answers. Meaning is document 01's sentence with "verifies
-- under the key" for a yes.
pub mod SignatureAnswers
pub mod Meaning
