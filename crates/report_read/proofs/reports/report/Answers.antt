use borrow.Author.Rules.{rules}
use Rattle.json_tokens.proofs.Picks.{picks}
use Rattle.report_read.proofs.Texts.{unread-brace, unread-none, unread-sought, opened}
use Rattle.report_read.proofs.reports.report.Goals as goal

pub returns-then-b-ne123 : goal.returns-then-b-ne123
returns-then-b-ne123 c =
    (unread-brace c.args.s.now c.blanks-root.ensures
    c.byte-b.ensures c.if-b-ne123.true)

pub overflow_add-root : goal.overflow_add-root
overflow_add-root c = search (picks, rules)

pub returns-then-a-eq125 : goal.returns-then-a-eq125
returns-then-a-eq125 c =
    (unread-none c.args.s.now c.blanks-root.ensures
    c.blanks-first.ensures c.byte-a.ensures c.if-a-eq125.true)

pub returns-in_default : goal.returns-in_default
returns-in_default c =
    (unread-sought c.args.s.now c.blanks-root.ensures
    c.byte-b.ensures c.if-b-ne123.false c.blanks-first.ensures c.byte-a.ensures
    c.if-a-eq125.false (rw c.in_default.is at c.seek.ensures))

pub report_at-requires : goal.report_at-requires
report_at-requires c =
    opened c.args.s.now c.blanks-root.ensures c.byte-b.ensures
    c.if-b-ne123.false c.blanks-first.ensures c.byte-a.ensures c.if-a-eq125.false
    (rw c.in-Some.is at c.seek.ensures)

pub returns : goal.returns
returns c = c.report_at.ensures
