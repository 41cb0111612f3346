-- What the writer answers and leaves in the buffer (request P7): the text of what the report check accepts, else that
-- check's refusal; then 19.
use Rattle.refusal.specs.declared.Refusal.{Refusal}
use Rattle.std.specs.Prelude.{ℕ, cond, List, [], ◌≡◌, ltb, length, Err, Ok, Result}
use Rattle.refusal.specs.Refusal.{refusal}
use Rattle.pile_report.specs.Report.{Reports}
use Rattle.report_write.specs.Entries.{text_of}

-- a text for a buffer of room bytes: its length, or 19 where the buffer is too short
abbrev pub roomed : List ℕ → ℕ → Result ℕ (Refusal × ℕ)
roomed text room = cond (ltb room (length text)) (Err ((refusal 19), 0)) (Ok (length text))

-- the answer, from what the check of the report says
abbrev pub published_of : List ℕ → ℕ → Result (ℕ × ℕ) (Refusal × ℕ) → Result ℕ (Refusal × ℕ)
published_of pile room (Ok (i, j)) = roomed (text_of pile) room
published_of pile room (Err (why, k)) = Err (why, k)

-- the answer on a pile
pub record Publishes (pile answers : List ℕ) (room : ℕ) (r : Result ℕ (Refusal × ℕ)) : Type 0 where
  pub report : Result (ℕ × ℕ) (Refusal × ℕ)
  pub checked : Reports pile answers report
  pub answer : r ≡ published_of pile room report

-- the number of an answer, 0 where the text is written
abbrev pub published_number : Result ℕ (Refusal × ℕ) → ℕ
published_number (Ok n) = 0
published_number (Err (why, k)) = why.code

-- what is written, by the answer
abbrev pub published_bytes : Result ℕ (Refusal × ℕ) → List ℕ → List ℕ
published_bytes (Ok n) pile = text_of pile
published_bytes (Err (why, k)) pile = []
