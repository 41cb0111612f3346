use borrow.Author.Rules.{rules}
use Rattle.json_tokens.proofs.Picks.{inside}
use Rattle.report_read.proofs.Texts.{unread-string, unread-colon, unread-other, unread-list, unread-behind, unread-more}
use Rattle.report_read.proofs.Texts.{told}
use Rattle.report_read.proofs.reports.report_at.Goals as goal

pub returns-in_default : goal.returns-in_default
returns-in_default c =
    (unread-string c.requires c.string.ensures c.in_default.is)

pub returns-in_default-colon : goal.returns-in_default-colon
returns-in_default-colon c =
    (unread-colon c.requires c.string.ensures c.in-Some.is
    c.colon.ensures c.in_default-colon.is)

pub returns-then-b-ne91 : goal.returns-then-b-ne91
returns-then-b-ne91 c =
    (unread-other c.requires c.string.ensures c.in-Some.is
    c.colon.ensures c.in-Some-colon.is c.byte-b.ensures c.if-b-ne91.true)

pub list-requires : goal.list-requires
list-requires c = inside c.args.s.now c.byte-b.ensures c.if-b-ne91.false tt

pub returns-in_default-list : goal.returns-in_default-list
returns-in_default-list c =
    (unread-list c.requires c.string.ensures c.in-Some.is
    c.colon.ensures c.in-Some-colon.is c.byte-b.ensures c.if-b-ne91.false
    (rw c.in_default-list.is at c.list.ensures))

pub returns-in_default-behind : goal.returns-in_default-behind
returns-in_default-behind c =
    (unread-behind c.requires c.string.ensures c.in-Some.is
    c.colon.ensures c.in-Some-colon.is c.byte-b.ensures c.if-b-ne91.false
    (rw c.in-Some-list.is at c.list.ensures)
    (rw c.in_default-behind.is at c.behind.ensures))

pub returns-then-blanks-s : goal.returns-then-blanks-s
returns-then-blanks-s c =
    (told c.requires c.string.ensures c.in-Some.is
    c.colon.ensures c.in-Some-colon.is c.byte-b.ensures c.if-b-ne91.false
    (rw c.in-Some-list.is at c.list.ensures)
    (rw c.in-Some-behind.is at c.behind.ensures) c.blanks.ensures c.if-blanks-s.true)

pub returns-else-blanks-s : goal.returns-else-blanks-s
returns-else-blanks-s c =
    (unread-more c.requires c.string.ensures c.in-Some.is
    c.colon.ensures c.in-Some-colon.is c.byte-b.ensures c.if-b-ne91.false
    (rw c.in-Some-list.is at c.list.ensures)
    (rw c.in-Some-behind.is at c.behind.ensures) c.blanks.ensures c.if-blanks-s.false)
