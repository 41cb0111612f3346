use borrow.Author.Rules.{rules}
use Rattle.json_tokens.specs.Number.{whole_at}
use Rattle.json_tokens.proofs.Picks.{picks}
use Rattle.json_tokens.proofs.numbers.whole.Goals as goal

pub overflow_add-result : goal.overflow_add-result
unfolding whole_at
overflow_add-result c = search (picks, rules)

pub returns-then-b-eq48 : goal.returns-then-b-eq48
unfolding whole_at
returns-then-b-eq48 c = search (picks, rules)

pub returns-else-b-eq48 : goal.returns-else-b-eq48
unfolding whole_at
returns-else-b-eq48 c = search (picks, rules)
