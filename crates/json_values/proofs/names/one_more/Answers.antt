use borrow.Author.Rules.{rules}
use Rattle.laws.specs.Pick.{pick}
use Rattle.json_values.specs.Members.{count_of}
use Rattle.json_tokens.proofs.Picks.{picks}
use Rattle.json_values.proofs.names.one_more.Goals as goal

pub returns-then-n-eq0 : goal.returns-then-n-eq0
unfolding count_of
returns-then-n-eq0 c = search (picks, rules)

pub returns-else-n-eq0 : goal.returns-else-n-eq0
unfolding count_of
returns-else-n-eq0 c = search (picks, rules)
