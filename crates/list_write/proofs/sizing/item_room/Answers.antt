use borrow.Author.Rules.{rules}
use Rattle.list_write.specs.Lines.{is_item}
use Rattle.list_write.specs.Texts.{item_text}
use Rattle.list_write.proofs.Openings.{address_room}
use Rattle.list_write.proofs.Tests.{line-long}
use Rattle.list_write.proofs.sizing.item_room.Goals as goal

pub returns-in-Source : goal.returns-in-Source
unfolding item_text
returns-in-Source c = rw c.in-Source.is c.quoted_room.ensures

pub slice_bounds-quoted_room-count : goal.slice_bounds-quoted_room-count
unfolding is_item
slice_bounds-quoted_room-count c =
    let h = line-long c.args.t.now (rw c.in-Address.is at c.requires) in search rules

pub slice_bounds-quoted_room-start : goal.slice_bounds-quoted_room-start
unfolding is_item
slice_bounds-quoted_room-start c =
    let h = line-long c.args.t.now (rw c.in-Address.is at c.requires) in search rules

pub returns-in-Address : goal.returns-in-Address
unfolding item_text is_item
returns-in-Address c =
    rw c.in-Address.is (address_room _ _ c.args.t.now
    (line-long c.args.t.now (rw c.in-Address.is at c.requires)) c.spend.ensures c.quoted_room-in-Address.ensures)
