-- What every writer of bytes answers (document 01, "Refusal codes"). What it leaves in the buffer is `written` of laws.
use Rattle.std.specs.Prelude.{cond, List, [], ◌∷◌, ℕ, eqb, ltb, length, Err, Ok, Result}
use Rattle.refusal.specs.Refusal.{first, when}
use Rattle.refusal.specs.declared.Refusal.{Refusal}

-- document 01's number of an answer, 0 where nothing is refused
abbrev pub wrote_number : Result ℕ Refusal → ℕ
wrote_number (Ok n) = 0
wrote_number (Err why) = why.code

-- the byte place of an answer, 0 where it carries none (request P8)
abbrev pub wrote_at : Result ℕ Refusal → ℕ
wrote_at (Ok n) = 0
wrote_at (Err why) = why.at

-- the value of an answer: how many bytes stand at the front of the buffer, none where it is refused
abbrev pub wrote_length : Result ℕ Refusal → ℕ
wrote_length (Ok n) = n
wrote_length (Err why) = 0

-- the first refusal, where the input has the refusal `why`, the bytes p are to be written and the buffer holds o: that
-- of the input, then 19 where p does not fit
unfoldable pub write_code : Refusal → List ℕ → List ℕ → Refusal
write_code why p o = first (why ∷ when (ltb (length o) (length p)) 19 ∷ [])

-- what the writer answers: that refusal, and where it is none, how many bytes it wrote
unfoldable pub answered : Refusal → List ℕ → List ℕ → Result ℕ Refusal
answered why p o = cond (eqb (write_code why p o).code 0) (Ok (length p)) (Err (write_code why p o))
