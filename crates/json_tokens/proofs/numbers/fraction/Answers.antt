use borrow.Author.Rules.{rules}
use Rattle.json_tokens.specs.Number.{fraction_at}
use Rattle.json_tokens.proofs.Picks.{picks}
use Rattle.json_tokens.proofs.numbers.fraction.Goals as goal

pub overflow_add-at : goal.overflow_add-at
unfolding fraction_at
overflow_add-at c = search (picks, rules)

pub returns-then-b-eq46 : goal.returns-then-b-eq46
unfolding fraction_at
returns-then-b-eq46 c = search (picks, rules)

pub returns-else-b-eq46 : goal.returns-else-b-eq46
unfolding fraction_at
returns-else-b-eq46 c = search (picks, rules)
