-- What the cutter answers and leaves in the buffer (document 01, "Piles and reports"). A run taken out of a pile is its
-- records with the first one's rand set to zero. The order is 15, 19, 18.
use Rattle.std.specs.Prelude.{List, [], ℕ, ◌+◌, ◌-◌, ◌*◌, ◌≤◌, ◌<◌, length, replicate, Err, Ok, Result}
use Rattle.laws.specs.Pairs.{IsLeast}
use Rattle.laws.specs.Pasted.{part, pasted}
use Rattle.refusal.specs.Refusal.{refusal}
use Rattle.refusal.specs.declared.Refusal.{Refusal}
use Rattle.pile.specs.Layout.{RAND, REQUEST-LENGTH, RECORD}
use Rattle.pile.specs.Pile.{records_in}
use Rattle.pile.specs.Links.{linked_of}
use Rattle.pile.specs.Meaning.{GoodPile}
use Rattle.pile_runs.specs.Convict.{Convicts}
use Rattle.pile_report.specs.Report.{judged}

-- the run from record i to record j of the pile convicts by itself. It does so exactly where it is a report by document
-- 01 when it is cut out: `convicts-exactly`.
abbrev pub ConvictsIn : List ℕ → List ℕ → ℕ → ℕ → Type 0
ConvictsIn pile answers = Convicts (judged pile answers) (linked_of pile) (records_in pile)

-- why no run is taken, with a buffer of room bytes
pub data CutRefused (pile answers : List ℕ) (room : ℕ) : Refusal → Type 0 where
  code-15 : (GoodPile pile answers → ⊥) → CutRefused pile answers room (refusal 15)
  code-19 : GoodPile pile answers → room < length pile → CutRefused pile answers room (refusal 19)
  code-18 : GoodPile pile answers → length pile ≤ room → ((i j : ℕ) → ConvictsIn pile answers i j → ⊥)
      → CutRefused pile answers room (refusal 18)

-- the answer, with such a buffer
abbrev pub Takes : List ℕ → List ℕ → ℕ → Result (ℕ × ℕ) Refusal → Type 0
Takes pile answers room (Ok (i, j)) = GoodPile pile answers × (length pile ≤ room) × IsLeast (ConvictsIn pile answers) i j
Takes pile answers room (Err why) = CutRefused pile answers room why

-- document 01's number of an answer, 0 where a run is taken
abbrev pub taken_number : Result (ℕ × ℕ) Refusal → ℕ
taken_number (Ok (i, j)) = 0
taken_number (Err why) = why.code

-- records i to j, the first one's rand, bytes 32 to 63, set to zero
unfoldable pub run_bytes : ℕ → ℕ → List ℕ → List ℕ
run_bytes i j pile = pasted (part (RECORD * i) (RECORD * j + RECORD) pile) RAND (replicate (REQUEST-LENGTH - RAND) 0)

-- their answers, two bytes a record
abbrev pub run_answers : ℕ → ℕ → List ℕ → List ℕ
run_answers i j answers = part (2 * i) (2 * j + 2) answers

-- what is written, by the answer
abbrev pub taken_bytes : Result (ℕ × ℕ) Refusal → List ℕ → List ℕ
taken_bytes (Ok (i, j)) pile = run_bytes i j pile
taken_bytes (Err why) pile = []
