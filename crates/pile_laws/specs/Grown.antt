-- Records that are added at the end of a pile, with their answers, and what may be answered then (request P14). The
-- pile has its first records as before, and so have the answers.
use Rattle.refusal.specs.declared.Refusal.{Refusal}
use Rattle.std.specs.Prelude.{List, ◌++◌, ◌≡◌, ℕ, ◌-◌, ◌≤◌, ◌<◌, T, length, get_or, Err, Ok, Result}
use Rattle.pile.specs.Layout.{RECORD}
use Rattle.pile.specs.Pile.{records_in}
use Rattle.pile.specs.Links.{linked_of}
use Rattle.pile.specs.Meaning.{GoodPile}
use Rattle.pile_runs.specs.Clash.{valid}
use Rattle.pile_report.specs.Report.{judged}

-- ---- what is added

-- one record, and its two answers, to a good pile that has room for it within 16 records. The record may be any 4,096
-- bytes at all.
pub record OneMore (pile answers r said : List ℕ) : Type 0 where
  pub good : GoodPile pile answers
  pub room : records_in pile < 16
  pub long : length r ≡ RECORD
  pub two : length said ≡ 2
  pub one_at_most : (i : ℕ) → i < 2 → get_or said i 0 ≤ 1

-- one record or more, or none: both piles are good
pub record Adds (pile answers more said : List ℕ) : Type 0 where
  pub good : GoodPile pile answers
  pub grown : GoodPile (pile ++ more) (answers ++ said)

-- each record that was added is valid and linked, as `tb_judge` and `tb_linked` tell of it
pub record Joins (pile answers more said : List ℕ) : Type 0 where
  pub all_valid : (k : ℕ) → records_in pile ≤ k → k < records_in (pile ++ more)
      → T (valid (judged (pile ++ more) (answers ++ said) k))
  pub all-linked : (k : ℕ) → records_in pile ≤ k → k < records_in (pile ++ more) → T (linked_of (pile ++ more) k)

-- ---- what may be answered

-- a pair that is no further apart than i and j
abbrev pub NoFurther : ℕ → ℕ → Result (ℕ × ℕ) (Refusal × ℕ) → Type 0
NoFurther i j (Ok (a, b)) = b - a ≤ j - i
NoFurther i j (Err (why, k)) = ⊥

-- a run that is no longer than that from i to j, or, where the buffer has too little room for the pile, 19; but never
-- that there is none
abbrev pub NoLonger : ℕ → ℕ → List ℕ → ℕ → Result (ℕ × ℕ) Refusal → Type 0
NoLonger i j pile room (Ok (a, b)) = b - a ≤ j - i
NoLonger i j pile room (Err why) = (why.code ≡ 19) × (room < length pile)
