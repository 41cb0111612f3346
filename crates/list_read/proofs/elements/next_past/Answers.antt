use borrow.Author.Rules.{rules}
use Rattle.list_read.proofs.Items.{past}
use Rattle.list_read.proofs.elements.next_past.Goals as goal

pub returns-in_default : goal.returns-in_default
returns-in_default c = search (past, rules)

pub returns-in-More : goal.returns-in-More
returns-in-More c = search (past, rules)

pub returns-in-End : goal.returns-in-End
returns-in-End c = search (past, rules)

pub returns-in-Wrong : goal.returns-in-Wrong
returns-in-Wrong c = search (past, rules)
