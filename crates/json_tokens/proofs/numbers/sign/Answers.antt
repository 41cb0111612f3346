use borrow.Author.Rules.{rules}
use Rattle.json_tokens.specs.Number.{past_sign}
use Rattle.json_tokens.proofs.Picks.{picks}
use Rattle.json_tokens.proofs.numbers.sign.Goals as goal

pub returns-in-43 : goal.returns-in-43
unfolding past_sign
returns-in-43 c = search (picks, rules)

pub returns-in_default : goal.returns-in_default
unfolding past_sign
returns-in_default c = search (picks, rules)
