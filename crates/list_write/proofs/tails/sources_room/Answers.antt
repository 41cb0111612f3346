-- `list_write::tails::sources_room` meets its contract.
use borrow.Author.Rules.{rules}
use Rattle.list_write.proofs.Openings.{sources-room-none, sources-room-some}
use Rattle.list_write.proofs.tails.sources_room.Goals as goal

pub returns-then-s-eq0 : goal.returns-then-s-eq0
returns-then-s-eq0 c = sources-room-none _ c.args.s.now c.if-s-eq0.true

pub items_room-requires : goal.items_room-requires
items_room-requires c = c.requires

pub returns : goal.returns
returns c =
    sources-room-some _ _ c.args.s.now c.if-s-eq0.false c.spend.ensures c.items_room.ensures
