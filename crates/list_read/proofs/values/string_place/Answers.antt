use borrow.Author.Rules.{rules}
use Rattle.json_tokens.proofs.Picks.{picks}
use Rattle.list_read.proofs.Small.{finds}
use Rattle.list_read.proofs.values.string_place.Goals as goal

pub overflow_add-result : goal.overflow_add-result
overflow_add-result c = search (picks, rules)

pub returns-then-b-eq34 : goal.returns-then-b-eq34
returns-then-b-eq34 c = search (finds, picks, rules)

pub returns-else-b-eq34 : goal.returns-else-b-eq34
returns-else-b-eq34 c = search (finds, picks, rules)

pub returns-in-Nothing : goal.returns-in-Nothing
returns-in-Nothing c = search (finds, picks, rules)

pub returns-in-Twice : goal.returns-in-Twice
returns-in-Twice c = search (finds, picks, rules)
