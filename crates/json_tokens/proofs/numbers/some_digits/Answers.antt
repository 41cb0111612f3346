use borrow.Author.Rules.{rules}
use Rattle.json_tokens.specs.Number.{some_digits}
use Rattle.json_tokens.proofs.Picks.{picks}
use Rattle.json_tokens.proofs.numbers.some_digits.Goals as goal

pub returns-then-e-at : goal.returns-then-e-at
unfolding some_digits
returns-then-e-at c = search (picks, rules)

pub returns-else-e-at : goal.returns-else-e-at
unfolding some_digits
returns-else-e-at c = search (picks, rules)
