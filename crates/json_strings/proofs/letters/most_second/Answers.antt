use borrow.Author.Rules.{rules}
use Rattle.json_strings.specs.Text.{most_second}
use Rattle.json_strings.proofs.Units.{units}
use Rattle.json_strings.proofs.letters.most_second.Goals as goal

pub returns-then-b-eq237 : goal.returns-then-b-eq237
unfolding most_second
returns-then-b-eq237 c = search (units, rules)

pub returns-then-b-eq244 : goal.returns-then-b-eq244
unfolding most_second
returns-then-b-eq244 c = search (units, rules)

pub returns-else-b-eq244 : goal.returns-else-b-eq244
unfolding most_second
returns-else-b-eq244 c = search (units, rules)
