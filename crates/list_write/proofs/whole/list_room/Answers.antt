use Rattle.list_write.specs.Facts.{given_left}
use Rattle.list_write.proofs.Answering.{list-room}
use Rattle.list_write.proofs.whole.list_room.Goals as goal

pub servers_room-a-requires : goal.servers_room-a-requires
servers_room-a-requires c = c.requires.servers

pub sources_room-requires : goal.sources_room-requires
sources_room-requires c = c.requires.lines

pub returns : goal.returns
returns c =
    let l = c.args.list in
    list-room (given_left l.servers) l.sources.now l.reports.now _ _ _ _ _ c.spend.ensures
    c.servers_room-a.ensures c.sources_room.ensures c.reports_room-b.ensures c.spend-2.ensures
