use borrow.Author.Rules.{rules}
use Prim.Native.Nat.{◌-◌}
use mathlib.Core.Path.{refl}
use lib.ListN.{length}
use Rattle.json_tokens.proofs.Picks.{picks}
use Rattle.report_read.proofs.Rows.{Listing, listing-first, listed-none, listing-unfit, listing-inside, listing-wrong}
use Rattle.report_read.proofs.Rows.{listing-less, listing-more, listing-end, stored-early, stored-late}
use Rattle.report_read.proofs.lists.list.Goals as goal
use Rattle.report_read.proofs.lists.list.Goals.{then-n-lt16, else-n-lt16}

pub overflow_add-result : goal.overflow_add-result
overflow_add-result c = search (picks, rules)

pub returns-then-byte-eq93 : goal.returns-then-byte-eq93
returns-then-byte-eq93 c =
    listed-none _ _ c.blanks-start.ensures c.byte.ensures _ c.if-byte-eq93.true refl refl

pub loop-e-init : goal.loop-e-init
loop-e-init c =
    listing-first _ _ c.blanks-start.ensures c.byte.ensures
    c.blank_spots-spots.ensures c.if-byte-eq93.false

pub returns-in_default : goal.returns-in_default
returns-in_default c =
    (listing-unfit c.loop-e.invariant
    (rw c.in_default.is at c.entry.ensures))

pub overflow_add-n : goal.overflow_add-n
overflow_add-n c =
    let l = c.loop-e.invariant in
    let i = listing-inside l (rw c.in-Some.is at c.entry.ensures) in
    let m = l.low in
    search rules

pub loop-e-smaller : goal.loop-e-smaller
loop-e-smaller c =
    listing-less c.loop-e.invariant (rw c.in-Some.is at c.entry.ensures)
    c.after_item.ensures c.in-More.is

pub loop-e-preserved : goal.loop-e-preserved
loop-e-preserved c =
    listing-more c.loop-e.invariant (rw c.in-Some.is at c.entry.ensures)
    c.after_item.ensures c.is_big-big.ensures (elim c.if-n-lt16.branch [ then-n-lt16 w ↦ stored-early _ _ _ w.if-n-lt16.true w.spots-is | else-n-lt16 w ↦ stored-late _ _ _ w.if-n-lt16.false w.spots-is ])
    c.in-More.is

pub returns-in-End : goal.returns-in-End
returns-in-End c =
    listing-end c.loop-e.invariant (rw c.in-Some.is at c.entry.ensures)
    c.after_item.ensures c.is_big-big.ensures (elim c.if-n-lt16.branch [ then-n-lt16 w ↦ stored-early _ _ _ w.if-n-lt16.true w.spots-is | else-n-lt16 w ↦ stored-late _ _ _ w.if-n-lt16.false w.spots-is ]) _
    c.in-End.is refl refl refl

pub returns-in-Wrong : goal.returns-in-Wrong
returns-in-Wrong c =
    (listing-wrong c.loop-e.invariant
    (rw c.in-Some.is at c.entry.ensures) c.after_item.ensures
    c.in-Wrong.is)
