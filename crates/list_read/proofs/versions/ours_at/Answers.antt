use borrow.Author.Rules.{rules}
use Rattle.json_tokens.proofs.Picks.{next_fits}
use Rattle.list_read.proofs.Integers.{integers, ours-other, ours-longer}
use Rattle.list_read.proofs.versions.ours_at.Goals as goal

pub returns-then-b-ne49 : goal.returns-then-b-ne49
returns-then-b-ne49 c = search (ours-other, rules)

pub returns-then-is_digit : goal.returns-then-is_digit
returns-then-is_digit c = search (ours-longer, rules)

pub returns-in_default : goal.returns-in_default
returns-in_default c = search (integers, rules)

pub slice_bounds-is_one-count : goal.slice_bounds-is_one-count
slice_bounds-is_one-count c = search (integers, rules)

pub slice_bounds-is_one-start : goal.slice_bounds-is_one-start
slice_bounds-is_one-start c = search (integers, rules)

pub slice_bounds-is_one-end : goal.slice_bounds-is_one-end
slice_bounds-is_one-end c = search (integers, rules)

pub returns : goal.returns
returns c = search (integers, rules)

pub overflow_add-v : goal.overflow_add-v
overflow_add-v c = search (next_fits, rules)
