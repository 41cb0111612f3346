-- `pile_report::linking::joined_at` meets its contract. The first record by its rand, every other by its link.
use borrow.Author.Tests.{eq-eqb, ne_eqb}
use Rattle.pile_report.specs.Report.{joined}
use Rattle.pile_report.proofs.linking.joined_at.Goals as goal

pub returns-then-k-eq0 : goal.returns-then-k-eq0
unfolding joined
returns-then-k-eq0 c = rw (eq-eqb _ 0 c.if-k-eq0.true) c.first_rand_zero.ensures

pub returns : goal.returns
unfolding joined
returns c = rw (ne_eqb _ 0 c.if-k-eq0.false) c.linked.ensures
