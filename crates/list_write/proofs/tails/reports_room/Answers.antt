-- `list_write::tails::reports_room` meets its contract.
use borrow.Author.Rules.{rules}
use Rattle.list_write.proofs.Openings.{reports-room-none, reports-room-some}
use Rattle.list_write.proofs.tails.reports_room.Goals as goal

pub returns-then-u-eq0 : goal.returns-then-u-eq0
returns-then-u-eq0 c = reports-room-none _ c.args.u.now c.if-u-eq0.true

pub returns : goal.returns
returns c =
    reports-room-some _ _ c.args.u.now c.if-u-eq0.false c.spend.ensures c.quoted_room.ensures
