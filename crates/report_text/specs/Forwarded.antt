-- What a text answers from which a run is cut, and what is left in the buffer (request P7): the text is read (24, 25),
-- the run is cut (15 for the answers, 18), and its text is written (19).
use Rattle.refusal.specs.declared.Refusal.{Refusal}
use Rattle.std.specs.Prelude.{ℕ, ◌+◌, ◌*◌, cond, List, [], ◌≡◌, ltb, length, Err, Ok, Result}
use Rattle.refusal.specs.Refusal.{refusal}
use Rattle.report_read.specs.Entry.{entries_of}
use Rattle.report_read.specs.Read.{read_of, pile_bytes}
use Rattle.report_write.specs.Entries.{text_of}
use Rattle.laws.specs.Pasted.{part}
use Rattle.pile.specs.Layout.{RECORD}
use Rattle.pile_report.specs.Taking.{Takes}

-- the text of the run from record i to record j, for a buffer of room bytes: its length, or 19 where the buffer is too
-- short
abbrev pub run_roomed : ℕ → ℕ → List ℕ → ℕ → Result (ℕ × ℕ × ℕ) Refusal
run_roomed i j text room = cond (ltb room (length text)) (Err (refusal 19)) (Ok (i, j, (length text)))

-- the answer, from what the cutter says of a pile where it has room enough: the text of the run is that of its records
-- as they stand, since the rand of the first is not written
abbrev pub cut_of : List ℕ → ℕ → Result (ℕ × ℕ) Refusal → Result (ℕ × ℕ × ℕ) Refusal
cut_of pile room (Ok (i, j)) = run_roomed i j (text_of (part (RECORD * i) (RECORD * j + RECORD) pile)) room
cut_of pile room (Err why) = Err why

pub record CutsText (pile answers : List ℕ) (room : ℕ) (r : Result (ℕ × ℕ × ℕ) Refusal) : Type 0 where
  pub cut : Result (ℕ × ℕ) Refusal
  pub right : Takes pile answers (length pile) cut
  pub answer : r ≡ cut_of pile room cut

-- the records of a text
abbrev pub pile_of : List ℕ → List ℕ
pile_of text = pile_bytes (entries_of text)

-- the answer, from what the reader says of the text where it has room for 16 records
abbrev pub ForwardsBy : Result ℕ Refusal → List ℕ → List ℕ → ℕ → Result (ℕ × ℕ × ℕ) Refusal → Type 0
ForwardsBy (Ok n) pile answers room r = CutsText pile answers room r
ForwardsBy (Err why) pile answers room r = r ≡ Err why

abbrev pub Forwards : List ℕ → List ℕ → ℕ → Result (ℕ × ℕ × ℕ) Refusal → Type 0
Forwards text answers room r = ForwardsBy (read_of (entries_of text) 65536) (pile_of text) answers room r

-- the number of an answer, 0 where a text is written
abbrev pub forwarded_number : Result (ℕ × ℕ × ℕ) Refusal → ℕ
forwarded_number (Ok (i, j, n)) = 0
forwarded_number (Err why) = why.code

-- what is written, by the answer
abbrev pub forwarded_bytes : Result (ℕ × ℕ × ℕ) Refusal → List ℕ → List ℕ
forwarded_bytes (Ok (i, j, n)) pile = text_of (part (RECORD * i) (RECORD * j + RECORD) pile)
forwarded_bytes (Err why) pile = []
