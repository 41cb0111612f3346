use borrow.Author.Rules.{rules}
use Rattle.json_values.specs.Members.{answer_of}
use Rattle.json_tokens.proofs.Picks.{picks}
use Rattle.json_values.proofs.names.answer.Goals as goal

pub returns-then-n-eq0 : goal.returns-then-n-eq0
unfolding answer_of
returns-then-n-eq0 c = search (picks, rules)

pub returns-then-n-eq1 : goal.returns-then-n-eq1
unfolding answer_of
returns-then-n-eq1 c = search (picks, rules)

pub returns-else-n-eq1 : goal.returns-else-n-eq1
unfolding answer_of
returns-else-n-eq1 c = search (picks, rules)
