use borrow.Author.Rules.{rules}
use Rattle.list_read.proofs.Records.{ask-inside, key-none, key_fits, key-done}
use Rattle.list_read.proofs.reading.key_of.Goals as goal

pub find-requires : goal.find-requires
find-requires c = search (ask-inside, rules)

pub returns-in_default : goal.returns-in_default
returns-in_default c = search (key-none, rules)

pub decode-requires : goal.decode-requires
decode-requires c = search (key_fits, rules)

pub returns : goal.returns
returns c = search (key-done, rules)
