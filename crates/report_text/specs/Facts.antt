-- What private functions ask of their callers. Nothing public is stated by it.
use Rattle.std.specs.Prelude.{ℕ, List, Option}
use Rattle.pile.specs.Meaning.{GoodPile}
use Rattle.pile_report.specs.Taking.{ConvictsIn}
use Rattle.pile_runs.specs.Spans.{Answers}

-- the answer of a search in a pile that is good with some answers, by these
pub record FoundIn (pile : List ℕ) (found : Option (ℕ × ℕ)) : Type 0 where
  pub answers : List ℕ
  pub good : GoodPile pile answers
  pub run : Answers (ConvictsIn pile answers) found
