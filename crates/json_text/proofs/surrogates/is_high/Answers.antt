use borrow.Author.Rules.{rules}
use Rattle.laws.proofs.Picks.{choices}
use Rattle.json_text.specs.Octets.{is_high}
use Rattle.json_text.proofs.surrogates.is_high.Goals as goal

pub returns-in-55296-to-56319 : goal.returns-in-55296-to-56319
unfolding is_high
returns-in-55296-to-56319 c = search (choices, rules)

pub returns-in_default : goal.returns-in_default
unfolding is_high
returns-in_default c = search (choices, rules)

pub returns-in_default-2 : goal.returns-in_default-2
unfolding is_high
returns-in_default-2 c = search (choices, rules)
