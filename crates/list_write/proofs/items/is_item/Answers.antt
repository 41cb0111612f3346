use borrow.Author.Rules.{rules}
use Rattle.list_write.specs.Lines.{is_item}
use Rattle.list_write.proofs.items.is_item.Goals as goal

pub returns-in-Source : goal.returns-in-Source
unfolding is_item
returns-in-Source c = rw c.in-Source.is c.is_url.ensures

pub returns-in-Address : goal.returns-in-Address
unfolding is_item
returns-in-Address c = rw c.in-Address.is c.is_address_line.ensures
