use borrow.Author.Rules.{rules}
use mathlib.Core.Path.{sym, ◌∙◌}
use Rattle.report_read.proofs.Texts.{behind_more, behind-end, behind-wrong}
use Rattle.report_read.proofs.reports.behind.Goals as goal

pub returns-in-More : goal.returns-in-More
returns-in-More c =
    behind_more c.args.s.now c.rest.result (sym c.after_item.ensures
    ∙ c.in-More.is) c.rest.ensures

pub returns-in-End : goal.returns-in-End
returns-in-End c =
    behind-end c.args.s.now (sym c.after_item.ensures ∙ c.in-End.is)

pub returns-in-Wrong : goal.returns-in-Wrong
returns-in-Wrong c =
    behind-wrong c.args.s.now (sym c.after_item.ensures ∙ c.in-Wrong.is)
