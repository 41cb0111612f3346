use borrow.Author.Rules.{rules}
use Rattle.list_read.proofs.Items.{turns}
use Rattle.list_read.proofs.elements.first_item.Goals as goal

pub returns-then-b-eq93 : goal.returns-then-b-eq93
returns-then-b-eq93 c = search (turns, rules)

pub returns-else-b-eq93 : goal.returns-else-b-eq93
returns-else-b-eq93 c = search (turns, rules)
