use borrow.Author.Rules.{rules}
use Rattle.list_read.proofs.Integers.{one-not, one-is}
use Rattle.list_read.proofs.versions.is_one.Goals as goal

pub returns-then-x-ne1 : goal.returns-then-x-ne1
returns-then-x-ne1 c = search (one-not, one-is, rules)

pub returns : goal.returns
returns c = search (one-not, one-is, rules)
