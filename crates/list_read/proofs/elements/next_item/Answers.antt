use borrow.Author.Rules.{rules}
use Rattle.list_read.proofs.Items.{turns}
use Rattle.list_read.proofs.elements.next_item.Goals as goal

pub returns-in-More : goal.returns-in-More
returns-in-More c = search (turns, rules)

pub returns-in-End : goal.returns-in-End
returns-in-End c = search (turns, rules)

pub returns-in-Wrong : goal.returns-in-Wrong
returns-in-Wrong c = search (turns, rules)
