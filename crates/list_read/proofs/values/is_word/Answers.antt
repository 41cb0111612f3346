use borrow.Author.Rules.{rules}
use Rattle.list_read.proofs.Parts.{word_at, word_none}
use Rattle.list_read.proofs.values.is_word.Goals as goal

pub returns-in-Some : goal.returns-in-Some
returns-in-Some c = search (word_at, word_none, rules)

pub returns-in-None : goal.returns-in-None
returns-in-None c = search (word_at, word_none, rules)
