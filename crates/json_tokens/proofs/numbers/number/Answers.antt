use borrow.Author.Rules.{rules}
use Rattle.json_tokens.specs.Number.{number_at}
use Rattle.json_tokens.specs.Scan.{then}
use Rattle.json_tokens.proofs.Picks.{picks}
use Rattle.json_tokens.proofs.numbers.number.Goals as goal

pub returns-in_err-e : goal.returns-in_err-e
unfolding number_at then
returns-in_err-e c = search (picks, rules)

pub returns-in_err-f : goal.returns-in_err-f
unfolding number_at then
returns-in_err-f c = search (picks, rules)

pub returns : goal.returns
unfolding number_at then
returns c = search (picks, rules)
