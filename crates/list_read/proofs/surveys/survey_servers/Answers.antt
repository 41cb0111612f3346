use borrow.Author.Rules.{rules}
use mathlib.Core.Path.{refl}
use Rattle.list_read.proofs.Surveying.{finds-bad, finds-few, finds-miscounted, finds-good}
use Rattle.list_read.proofs.surveys.survey_servers.Goals as goal

pub returns-in_default : goal.returns-in_default
returns-in_default c = finds-bad _ _ c.args.sources c.args.reports (rw c.in_default.is at c.tally.ensures) c.refuse.ensures

pub returns-then-miscounted : goal.returns-then-miscounted
returns-then-miscounted c =
    finds-miscounted (rw c.in-Some.is at c.tally.ensures) c.args.sources c.args.reports c.miscounted.ensures c.if-miscounted.true
    c.refuse-then-miscounted.ensures

pub overflow_sub-result : goal.overflow_sub-result
overflow_sub-result c = finds-few (rw c.in-Some.is at c.tally.ensures)

pub returns : goal.returns
returns c =
    finds-good (rw c.in-Some.is at c.tally.ensures) c.miscounted.ensures c.if-miscounted.false
    refl refl refl refl refl
