use borrow.Author.Rules.{rules}
use mathlib.Core.Path.{◌≡◌, sym, ◌∙◌}
use Rattle.laws.proofs.Same.{same-lengths}
use Rattle.server_list.proofs.Seeking.{word-differs}
use Rattle.server_list.proofs.records.alike.Goals as goal

pub returns-then-b-ne32 : goal.returns-then-b-ne32
returns-then-b-ne32 c =
    sym (same-lengths _ _ (λ q. c.if-b-ne32.true (sym q ∙ c.requires)))

pub returns-then-le64 : goal.returns-then-le64
returns-then-le64 c =
    word-differs _ _ 24 c.le64.ensures c.le64-2.ensures c.if-le64.true

pub returns-then-le64-2 : goal.returns-then-le64-2
returns-then-le64-2 c =
    word-differs _ _ 16 c.le64-3.ensures c.le64-4.ensures c.if-le64-2.true

pub returns-then-le64-3 : goal.returns-then-le64-3
returns-then-le64-3 c =
    word-differs _ _ 8 c.le64-5.ensures c.le64-6.ensures c.if-le64-3.true

pub returns : goal.returns
returns c = c.equal.ensures
