use borrow.Author.Rules.{rules}
use Rattle.json_strings.specs.Text.{least_second}
use Rattle.json_strings.proofs.Units.{units}
use Rattle.json_strings.proofs.letters.least_second.Goals as goal

pub returns-then-b-eq224 : goal.returns-then-b-eq224
unfolding least_second
returns-then-b-eq224 c = search (units, rules)

pub returns-then-b-eq240 : goal.returns-then-b-eq240
unfolding least_second
returns-then-b-eq240 c = search (units, rules)

pub returns-else-b-eq240 : goal.returns-else-b-eq240
unfolding least_second
returns-else-b-eq240 c = search (units, rules)
