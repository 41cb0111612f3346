use borrow.Author.Rules.{rules}
use Rattle.json_tokens.specs.Number.{past_minus}
use Rattle.json_tokens.proofs.Picks.{picks}
use Rattle.json_tokens.proofs.numbers.minus.Goals as goal

pub overflow_add-result : goal.overflow_add-result
overflow_add-result c = search (picks, rules)

pub returns-then-b-eq45 : goal.returns-then-b-eq45
unfolding past_minus
returns-then-b-eq45 c = search (picks, rules)

pub returns-else-b-eq45 : goal.returns-else-b-eq45
unfolding past_minus
returns-else-b-eq45 c = search (picks, rules)
