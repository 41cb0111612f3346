use borrow.Author.Rules.{rules}
use mathlib.Core.Path.{sym}
use Rattle.json_strings.specs.Text.{long_at}
use Rattle.json_strings.proofs.Units.{units}
use Rattle.json_strings.proofs.letters.long.Goals as goal

pub returns-then-not-tail_at : goal.returns-then-not-tail_at
unfolding long_at
returns-then-not-tail_at c = search (units, rules) depth 8

pub returns-then-a-lt240 : goal.returns-then-a-lt240
unfolding long_at
returns-then-a-lt240 c = search (units, rules) depth 8

pub returns-then-not-tail_at-2 : goal.returns-then-not-tail_at-2
unfolding long_at
returns-then-not-tail_at-2 c = search (units, rules) depth 8

pub returns-then-a-lt245 : goal.returns-then-a-lt245
unfolding long_at
returns-then-a-lt245 c = rw (sym c.four.ensures) (search (units, rules) depth 8)

pub returns-else-a-lt245 : goal.returns-else-a-lt245
unfolding long_at
returns-else-a-lt245 c = search (units, rules) depth 8
