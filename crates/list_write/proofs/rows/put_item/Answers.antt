use borrow.Author.Rules.{rules}
use Rattle.list_write.specs.Lines.{is_item}
use Rattle.list_write.specs.Texts.{item_text}
use Rattle.list_write.proofs.rows.put_item.Goals as goal

pub put_quoted-requires : goal.put_quoted-requires
unfolding item_text
put_quoted-requires c = rw c.in-Source.is at c.requires.1

pub returns-in-Source : goal.returns-in-Source
unfolding item_text
returns-in-Source c = rw c.in-Source.is c.put_quoted.ensures

pub put_address-requires : goal.put_address-requires
unfolding is_item item_text
put_address-requires c = rw c.in-Address.is at c.requires

pub returns-in-Address : goal.returns-in-Address
unfolding item_text
returns-in-Address c = rw c.in-Address.is c.put_address.ensures
