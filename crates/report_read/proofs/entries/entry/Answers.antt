use borrow.Author.Rules.{rules}
use mathlib.Core.Path.{refl, sym, ◌∙◌}
use Rattle.json_tokens.proofs.Picks.{inside}
use Rattle.report_read.proofs.Fits.{entry_other, entry-open, entry-rand, entry_key, entry-request, entry-response}
use Rattle.report_read.proofs.Fits.{entry-fine}
use Rattle.report_read.proofs.entries.entry.Goals as goal

pub returns-then-b-ne123 : goal.returns-then-b-ne123
returns-then-b-ne123 c = entry_other _ _ _ c.byte-b.ensures c.if-b-ne123.true

pub members-m-requires : goal.members-m-requires
members-m-requires c = inside c.args.s.now c.byte-b.ensures c.if-b-ne123.false tt

pub returns-in_default : goal.returns-in_default
returns-in_default c =
    entry-open _ _ _ (sym c.byte-b.ensures ∙ c.if-b-ne123.false) c.members-m.ensures.end_value
    c.in_default.is

pub returns-in_default-rand_part : goal.returns-in_default-rand_part
returns-in_default-rand_part c =
    entry-rand _ _ _ c.members-m.ensures.a_value
    (rw c.in_default-rand_part.is at c.rand_part.ensures)

pub returns-in_default-part_32 : goal.returns-in_default-part_32
returns-in_default-part_32 c =
    entry_key _ _ _ c.members-m.ensures.b_value
    (rw c.in_default-part_32.is at c.part_32.ensures)

pub returns-in_default-part : goal.returns-in_default-part
returns-in_default-part c =
    entry-request _ _ _ c.members-m.ensures.c_value
    (rw c.in_default-part.is at c.part.ensures)

pub returns-in_default-part-2 : goal.returns-in_default-part-2
returns-in_default-part-2 c =
    entry-response _ _ _ c.members-m.ensures.d_value
    (rw c.in_default-part-2.is at c.part-2.ensures)

pub returns : goal.returns
returns c =
    let m = c.members-m.ensures in
    entry-fine _ _ _ _ refl (sym c.byte-b.ensures ∙ c.if-b-ne123.false)
    m.a_value m.b_value m.c_value m.d_value
    (rw c.in-Some-rand_part.is at c.rand_part.ensures)
    (rw c.in-Some-part_32.is at c.part_32.ensures)
    (rw c.in-Some-part.is at c.part.ensures)
    (rw c.in-Some-part-2.is at c.part-2.ensures)
    m.end_value c.in-Some.is
