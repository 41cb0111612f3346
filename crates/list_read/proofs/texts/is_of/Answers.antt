use Rattle.list_read.proofs.Parts.{of-place, of-url}
use borrow.Author.Rules.{rules}
use Rattle.list_read.proofs.texts.is_of.Goals as goal

pub returns-in-Place : goal.returns-in-Place
returns-in-Place c = search (of-place, of-url, rules)

pub returns-in-Url : goal.returns-in-Url
returns-in-Url c = search (of-place, of-url, rules)
