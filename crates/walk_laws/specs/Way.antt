-- The way of a pile from whoever made it to whoever judges it, operation by operation. Each operation is what its
-- contract says of its answer and of the buffer that it was lent, with no answers lent: `out` is the buffer before the
-- call, and `left` is it afterwards.
use Rattle.refusal.specs.declared.Refusal.{Refusal}
use Rattle.std.specs.Prelude.{ℕ, ◌-◌, ◌*◌, ◌≤◌, ◌≡◌, List, length, take, Ok, Result}
use Rattle.laws.specs.Written.{written}
use Rattle.pile.specs.Layout.{RECORD}
use Rattle.pile.specs.Pile.{records_in}
use Rattle.pile_report.specs.Report.{Reports}
use Rattle.pile_report.specs.Taking.{run_bytes}
use Rattle.pile_signed.specs.OwnAnswers.{own_answers}
use Rattle.report_read.specs.Entry.{entries_of}
use Rattle.report_read.specs.Read.{read_of, read_number, pile_bytes}
use Rattle.report_write.specs.Entries.{text_of}
use Rattle.report_write.specs.Published.{Publishes, published_number, published_bytes}
use Rattle.report_text.specs.Forwarded.{Forwards, pile_of, forwarded_number, forwarded_bytes}
use Rattle.report_laws.specs.Reported.{Readable}

-- ---- the operations

-- check_signed_report may answer r
abbrev pub Checks : List ℕ → Result (ℕ × ℕ) (Refusal × ℕ) → Type 0
Checks pile r = Reports pile (own_answers pile) r

-- write_signed_report
pub record Writes (pile out : List ℕ) (p : Result ℕ (Refusal × ℕ)) (left : List ℕ) : Type 0 where
  pub answer : Publishes pile (own_answers pile) (length out) p
  pub bytes : left ≡ written (published_number p) (published_bytes p pile) out

-- read_report
pub record Reads (text out : List ℕ) (x : Result ℕ Refusal) (left : List ℕ) : Type 0 where
  pub answer : x ≡ read_of (entries_of text) (length out)
  pub bytes : left ≡ written (read_number x) (pile_bytes (entries_of text)) out

-- cut_signed_text
pub record Cuts (text out : List ℕ) (f : Result (ℕ × ℕ × ℕ) Refusal) (left : List ℕ) : Type 0 where
  pub answer : Forwards text (own_answers (pile_of text)) (length out) f
  pub bytes : left ≡ written (forwarded_number f) (forwarded_bytes f (pile_of text)) out

-- ---- what comes of them

-- the check that verifies signatures by itself accepts the pile and names its records i and j, and it can answer
-- nothing else
pub record Accepted (pile : List ℕ) (i j : ℕ) : Type 0 where
  pub named : Checks pile (Ok (i, j))
  pub just-that : (r : Result (ℕ × ℕ) (Refusal × ℕ)) → Checks pile r → r ≡ Ok (i, j)

-- a text was read, with the answer x: the pile stands at the front of the buffer, byte for byte, and the check accepts
-- what stands there
pub record Arrived (pile : List ℕ) (i j : ℕ) (x : Result ℕ Refusal) (left : List ℕ) : Type 0 where
  pub answer : x ≡ Ok (records_in pile)
  pub same : take (RECORD * records_in pile) left ≡ pile
  pub accepted : Accepted (take (RECORD * records_in pile) left) i j

-- the text is a report in draft 19's words (8.4.1), with an entry a record, and the pile arrives at whoever reads it;
-- 65,536 bytes are room for 16 records
pub record Posted (text pile : List ℕ) (i j : ℕ) : Type 0 where
  pub report : Readable text 65536 (records_in pile)
  pub read : (out : List ℕ) → 65536 ≤ length out → (x : Result ℕ Refusal) (left : List ℕ) → Reads text out x left
      → Arrived pile i j x left

-- the whole way of a pile whose records i and j contradict; 87,609 bytes are room for the text of 16 records
pub record WholeWay (pile : List ℕ) (i j : ℕ) : Type 0 where
  -- the pile is accepted where it was made,
  pub accepted : Accepted pile i j
  -- it is written as JSON, and nothing is refused,
  pub told : (out : List ℕ) → 87609 ≤ length out → (p : Result ℕ (Refusal × ℕ)) (left : List ℕ) → Writes pile out p left
      → (p ≡ Ok (length (text_of pile))) × (take (length (text_of pile)) left ≡ text_of pile)
  -- and it arrives with that text.
  pub posted : Posted (text_of pile) pile i j
  -- Out of the text the run from record i to record j is cut and written again, and nothing is refused;
  pub cut : (out : List ℕ) → 87609 ≤ length out → (f : Result (ℕ × ℕ × ℕ) Refusal) (left : List ℕ) → Cuts (text_of pile) out f left
      → (f ≡ Ok (i, j, (length (text_of (run_bytes i j pile)))))
      × (take (length (text_of (run_bytes i j pile))) left ≡ text_of (run_bytes i j pile))
  -- and the run arrives with that text, where its first and its last record are named
  pub cut-posted : Posted (text_of (run_bytes i j pile)) (run_bytes i j pile) 0 (j - i)

-- the pile convicts: it goes the whole way, with some two of its records
pub record Convicts (pile : List ℕ) : Type 0 where
  pub i : ℕ
  pub j : ℕ
  pub way : WholeWay pile i j
