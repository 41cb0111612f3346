use borrow.Author.Rules.{rules}
use Rattle.json_tokens.specs.Number.{exponent_at}
use Rattle.json_tokens.proofs.Picks.{picks}
use Rattle.json_tokens.proofs.numbers.exponent.Goals as goal

pub returns-in-101 : goal.returns-in-101
unfolding exponent_at
returns-in-101 c = search (picks, rules)

pub returns-in_default : goal.returns-in_default
unfolding exponent_at
returns-in_default c = search (picks, rules)
