use borrow.Author.Rules.{rules}
use Rattle.report_read.proofs.Small.{exact-32, exact-other, exact_none}
use Rattle.report_read.proofs.entries.part_32.Goals as goal

pub returns-then-n-eq32 : goal.returns-then-n-eq32
returns-then-n-eq32 c =
    exact-32 (rw c.in-Some.is at c.part.ensures) c.if-n-eq32.true

pub returns-else-n-eq32 : goal.returns-else-n-eq32
returns-else-n-eq32 c =
    exact-other (rw c.in-Some.is at c.part.ensures) c.if-n-eq32.false

pub returns-in-None : goal.returns-in-None
returns-in-None c = exact_none _ _ (rw c.in-None.is at c.part.ensures)
