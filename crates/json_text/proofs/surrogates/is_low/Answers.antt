use borrow.Author.Rules.{rules}
use Rattle.laws.proofs.Picks.{choices}
use Rattle.json_text.specs.Octets.{is_low}
use Rattle.json_text.proofs.surrogates.is_low.Goals as goal

pub returns-in-56320-to-57343 : goal.returns-in-56320-to-57343
unfolding is_low
returns-in-56320-to-57343 c = search (choices, rules)

pub returns-in_default : goal.returns-in_default
unfolding is_low
returns-in_default c = search (choices, rules)

pub returns-in_default-2 : goal.returns-in_default-2
unfolding is_low
returns-in_default-2 c = search (choices, rules)
