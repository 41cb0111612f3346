-- Answers: the answer of the server that is asked is taken. Told: some report is told of a sound pile. Turns: what is
-- known of a walk so far holds of one answer more. Tour: so the walk comes to its end.
pub mod Answers
pub mod Told
pub mod Turns
pub mod Tour
