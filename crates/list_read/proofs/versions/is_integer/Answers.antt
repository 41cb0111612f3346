use borrow.Author.Rules.{rules}
use Rattle.list_read.proofs.Integers.{versions}
use Rattle.list_read.proofs.versions.is_integer.Goals as goal

pub returns-in-At : goal.returns-in-At
returns-in-At c = search (versions, rules)

pub returns-in-Nothing : goal.returns-in-Nothing
returns-in-Nothing c = search (versions, rules)

pub returns-in-Twice : goal.returns-in-Twice
returns-in-Twice c = search (versions, rules)
