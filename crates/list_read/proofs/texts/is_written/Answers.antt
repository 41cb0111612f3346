use Rattle.list_read.proofs.Parts.{pass-bad, pass-long, text-good, text-fits, pass-done}
use borrow.Author.Rules.{rules}
use Rattle.list_read.proofs.texts.is_written.Goals as goal

pub returns-in_default : goal.returns-in_default
returns-in_default c = search (pass-bad, rules)

pub returns-then-n-gt-LONGEST : goal.returns-then-n-gt-LONGEST
returns-then-n-gt-LONGEST c = search (pass-long, rules)

pub fill-requires : goal.fill-requires
fill-requires c = (search (text-good, rules), search (text-fits, rules))

pub returns : goal.returns
returns c = search (pass-done, rules)
