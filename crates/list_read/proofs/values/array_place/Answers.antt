use borrow.Author.Rules.{rules}
use Rattle.json_tokens.proofs.Picks.{picks}
use Rattle.list_read.proofs.Small.{finds}
use Rattle.list_read.proofs.values.array_place.Goals as goal

pub returns-then-b-eq91 : goal.returns-then-b-eq91
returns-then-b-eq91 c = search (finds, picks, rules)

pub returns-else-b-eq91 : goal.returns-else-b-eq91
returns-else-b-eq91 c = search (finds, picks, rules)

pub returns-in-Nothing : goal.returns-in-Nothing
returns-in-Nothing c = search (finds, picks, rules)

pub returns-in-Twice : goal.returns-in-Twice
returns-in-Twice c = search (finds, picks, rules)
