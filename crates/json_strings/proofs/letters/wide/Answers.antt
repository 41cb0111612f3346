use borrow.Author.Rules.{rules}
use Rattle.json_strings.specs.Text.{wide_at}
use Rattle.json_strings.proofs.Units.{units}
use Rattle.json_strings.proofs.letters.wide.Goals as goal

pub returns-then-a-lt194 : goal.returns-then-a-lt194
unfolding wide_at
returns-then-a-lt194 c = search (units, rules) depth 8

pub returns-then-not-second_at : goal.returns-then-not-second_at
unfolding wide_at
returns-then-not-second_at c = search (units, rules) depth 8

pub returns-then-a-lt224 : goal.returns-then-a-lt224
unfolding wide_at
returns-then-a-lt224 c = search (units, rules) depth 8

pub returns-else-a-lt224 : goal.returns-else-a-lt224
unfolding wide_at
returns-else-a-lt224 c = search (units, rules) depth 8
