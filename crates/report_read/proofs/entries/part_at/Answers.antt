use borrow.Author.Rules.{rules}
use Rattle.json_tokens.proofs.Picks.{picks}
use Rattle.report_read.proofs.Small.{part-not, part-good, part-bad}
use Rattle.report_read.proofs.entries.part_at.Goals as goal

pub returns-then-b-ne34 : goal.returns-then-b-ne34
returns-then-b-ne34 c = part-not _ _ c.byte-b.ensures c.if-b-ne34.true

pub overflow_add-v : goal.overflow_add-v
overflow_add-v c = search (picks, rules)

pub overflow_add-result : goal.overflow_add-result
overflow_add-result c = search (picks, rules)

pub returns-in-Some : goal.returns-in-Some
returns-in-Some c =
    part-good _ _ c.byte-b.ensures
    c.if-b-ne34.false c.size_of.ensures c.in-Some.is

pub returns-in-None : goal.returns-in-None
returns-in-None c =
    part-bad _ _ c.byte-b.ensures c.if-b-ne34.false
    c.size_of.ensures c.in-None.is
