use Rattle.list_read.proofs.Parts.{texts}
use borrow.Author.Rules.{rules}
use Rattle.list_read.proofs.texts.has_text.Goals as goal

pub returns-in_default : goal.returns-in_default
returns-in_default c = search (texts, rules)

pub returns : goal.returns
returns c = search (texts, rules)
