use borrow.Author.Rules.{rules}
use Rattle.report_read.proofs.Small.{part-found, part-nothing, part-twice}
use Rattle.report_read.proofs.entries.part.Goals as goal

pub returns-in-At : goal.returns-in-At
returns-in-At c =
    part-found c.args.s.now c.part_at.result c.in-At.is c.part_at.ensures

pub returns-in-Nothing : goal.returns-in-Nothing
returns-in-Nothing c = part-nothing _ c.in-Nothing.is

pub returns-in-Twice : goal.returns-in-Twice
returns-in-Twice c = part-twice _ c.in-Twice.is
