use borrow.Author.Rules.{rules}
use Rattle.report_read.proofs.Small.{randed-first, randed-later}
use Rattle.report_read.proofs.entries.rand_part.Goals as goal

pub returns-then-first : goal.returns-then-first
returns-then-first c = randed-first _ _ _ c.if-first.true

pub returns-else-first : goal.returns-else-first
returns-else-first c =
    randed-later c.args.s.now c.args.f c.part_32.result c.if-first.false c.part_32.ensures
