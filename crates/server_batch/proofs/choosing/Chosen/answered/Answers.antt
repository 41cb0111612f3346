-- `server_batch::choosing::Chosen::answered` meets its contract.
use mathlib.Core.Path.{sym, ◌∙◌}
use Rattle.server_batch.proofs.Meant.{stay-is, stay-inside}
use Rattle.server_batch.proofs.choosing.Chosen.answered.Goals as goal

pub packet-requires : goal.packet-requires
packet-requires c =
    let a = c.args.self in
    let is = stay-is a.marks.now a.packets.lengths.now a.least c.args.i c.stays.ensures c.size.ensures in
    (c.requires, stay-inside _ _ _ _ a.held c.args.i a.least c.requires is c.if-stays.true)

pub returns-then-stays : goal.returns-then-stays
returns-then-stays c =
    let a = c.args.self in
    let is = stay-is a.marks.now a.packets.lengths.now a.least c.args.i c.stays.ensures c.size.ensures in
    (sym is ∙ c.if-stays.true, c.packet.ensures)

pub returns : goal.returns
returns c =
    let a = c.args.self in
    let is = stay-is a.marks.now a.packets.lengths.now a.least c.args.i c.stays.ensures c.size.ensures in
    sym is ∙ c.if-stays.false
