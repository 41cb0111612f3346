use borrow.Author.Rules.{rules}
use Rattle.list_read.proofs.Integers.{integers}
use Rattle.list_read.proofs.versions.integer_at.Goals as goal

pub returns-in_default : goal.returns-in_default
returns-in_default c = search (integers, rules)

pub slice_bounds-no_mark-count : goal.slice_bounds-no_mark-count
slice_bounds-no_mark-count c = search (integers, rules)

pub slice_bounds-no_mark-start : goal.slice_bounds-no_mark-start
slice_bounds-no_mark-start c = search (integers, rules)

pub slice_bounds-no_mark-end : goal.slice_bounds-no_mark-end
slice_bounds-no_mark-end c = search (integers, rules)

pub returns : goal.returns
returns c = search (integers, rules)
