use Rattle.list_read.proofs.Parts.{there-ahead, there-inside, there-long, there-done}
use borrow.Author.Rules.{rules}
use Rattle.list_read.proofs.texts.is_there.Goals as goal

pub overflow_sub-e : goal.overflow_sub-e
overflow_sub-e c = search (there-ahead, there-inside, rules)

pub returns-then-e-p-gt-LONGEST : goal.returns-then-e-p-gt-LONGEST
returns-then-e-p-gt-LONGEST c = search (there-long, rules)

pub slice_bounds-is_of-count : goal.slice_bounds-is_of-count
slice_bounds-is_of-count c = search (there-ahead, there-inside, rules)

pub slice_bounds-is_of-start : goal.slice_bounds-is_of-start
slice_bounds-is_of-start c = search (there-ahead, there-inside, rules)

pub slice_bounds-is_of-end : goal.slice_bounds-is_of-end
slice_bounds-is_of-end c = search (there-ahead, there-inside, rules)

pub returns : goal.returns
returns c = search (there-done, rules)
