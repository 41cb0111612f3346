use borrow.Author.Rules.{rules}
use Rattle.list_read.specs.Listed.{is_url}
use Rattle.list_read.specs.Facts.{of_sort}
use Rattle.list_read.proofs.Surveying.{optional}
use Rattle.list_read.proofs.surveys.reports_good.Goals as goal

pub returns-in-At : goal.returns-in-At
unfolding is_url of_sort
returns-in-At c = search (optional, rules)

pub returns-in-Nothing : goal.returns-in-Nothing
returns-in-Nothing c = search (optional, rules)

pub returns-in-Twice : goal.returns-in-Twice
returns-in-Twice c = search (optional, rules)
