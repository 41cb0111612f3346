-- What the check of a report answers (document 01, "Piles and reports"). A pile is a report when each record is valid
-- and each after the first is linked, the first rand is all zero, and two records i < j contradict; it names the pair
-- with least j - i, then least i. Else the answer says why it is none, in the order: 15; each record; 17 in order; 18.
use Rattle.check_response.specs.declared.Window.{Window}
use Rattle.std.specs.Prelude.{◌≡◌, Bool, not, cond, List, ℕ, eqb, Err, Ok, Result}
use Rattle.laws.specs.Pairs.{IsLeast}
use Rattle.laws.specs.Least.{IsFirst, Never}
use Rattle.refusal.specs.Refusal.{refusal}
use Rattle.refusal.specs.declared.Refusal.{Refusal}
use Rattle.pile.specs.Pile.{records_in}
use Rattle.pile.specs.Valid.{judgement_of}
use Rattle.pile.specs.Links.{linked_of, first_rand_zero}
use Rattle.pile.specs.Meaning.{GoodPile}
use Rattle.pile_runs.specs.Clash.{valid}
use Rattle.pile_runs.specs.Convict.{Contradiction}

-- the verdict on record k: its window, or its refusal
abbrev pub judged : List ℕ → List ℕ → ℕ → Result Window Refusal
judged pile answers k = (judgement_of pile answers k).verdict

-- what 17 asks of record k: that it is linked, and of the first record that its rand is all zero
unfoldable pub joined : List ℕ → ℕ → Bool
joined pile k = cond (eqb k 0) (first_rand_zero pile) (linked_of pile k)

-- of records with the verdicts v: record k is refused
abbrev pub refused : (ℕ → Result Window Refusal) → ℕ → Bool
refused v k = not (valid (v k))

-- of records with the flags l: the flag of record k is not set
abbrev pub loose : (ℕ → Bool) → ℕ → Bool
loose l k = not (l k)

-- why n records with the verdicts v and the flags l are no report, and the place of the record to which it applies. It
-- is the first refused record with its own refusal. Else it is 17 and the first record whose flag is not set. Else it
-- is 18, which applies to no one record
pub data RecordsRefused (v : ℕ → Result Window Refusal) (l : ℕ → Bool) (n : ℕ) : Refusal → ℕ → Type 0 where
  of-record : {why : Refusal} {k : ℕ} → IsFirst (refused v) n k → v k ≡ Err why
      → RecordsRefused v l n why k
  code-17 : {k : ℕ} → Never (refused v) n → IsFirst (loose l) n k → RecordsRefused v l n (refusal 17) k
  code-18 : Never (refused v) n → Never (loose l) n → ((i j : ℕ) → Contradiction v n i j → ⊥)
      → RecordsRefused v l n (refusal 18) 0

-- the answer on them
abbrev pub Says : (ℕ → Result Window Refusal) → (ℕ → Bool) → ℕ → Result (ℕ × ℕ) (Refusal × ℕ) → Type 0
Says v l n (Ok (i, j)) = Never (refused v) n × Never (loose l) n × IsLeast (Contradiction v n) i j
Says v l n (Err (why, k)) = RecordsRefused v l n why k

-- the answer on the records of a pile
abbrev pub SaysOf : List ℕ → List ℕ → Result (ℕ × ℕ) (Refusal × ℕ) → Type 0
SaysOf pile answers = Says (judged pile answers) (joined pile) (records_in pile)

-- why a pile is no report: 15, and else what is said of its records
pub data PileRefused (pile answers : List ℕ) : Refusal → ℕ → Type 0 where
  code-15 : (GoodPile pile answers → ⊥) → PileRefused pile answers (refusal 15) 0
  of-records : {why : Refusal} {k : ℕ} → GoodPile pile answers → SaysOf pile answers (Err (why, k))
      → PileRefused pile answers why k

-- the answer on a pile
abbrev pub Reports : List ℕ → List ℕ → Result (ℕ × ℕ) (Refusal × ℕ) → Type 0
Reports pile answers (Ok (i, j)) = GoodPile pile answers × SaysOf pile answers (Ok (i, j))
Reports pile answers (Err (why, k)) = PileRefused pile answers why k

-- document 01's number of an answer, 0 where the pile is a report
abbrev pub report_number : Result (ℕ × ℕ) (Refusal × ℕ) → ℕ
report_number (Ok (i, j)) = 0
report_number (Err (why, k)) = why.code

-- the byte place of an answer, 0 where it carries none (request P8)
abbrev pub report_at : Result (ℕ × ℕ) (Refusal × ℕ) → ℕ
report_at (Ok (i, j)) = 0
report_at (Err (why, k)) = why.at
