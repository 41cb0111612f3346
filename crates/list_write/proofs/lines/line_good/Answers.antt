use borrow.Author.Rules.{rules}
use Rattle.list_write.proofs.Feeds.{line-closed, line-open, line-none}
use Rattle.list_write.proofs.lines.line_good.Goals as goal

pub returns-in-10 : goal.returns-in-10
returns-in-10 c = line-closed _ _ (search rules) c.is_item.ensures

pub returns-in_default : goal.returns-in_default
returns-in_default c = line-none _ _ c.in_default.len_below

pub returns-in_default-2 : goal.returns-in_default-2
returns-in_default-2 c = line-open _ _ (search rules)
