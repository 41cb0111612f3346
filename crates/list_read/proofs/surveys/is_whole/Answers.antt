use Rattle.list_read.proofs.Surveying.{whole-none, whole-at}
use borrow.Author.Rules.{rules}
use Rattle.list_read.proofs.surveys.is_whole.Goals as goal

pub returns-in_default : goal.returns-in_default
returns-in_default c = search (whole-none, whole-at, rules)

pub returns : goal.returns
returns c = search (whole-none, whole-at, rules)
