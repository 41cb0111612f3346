-- `pile::linking::linked` meets its contract.
use mathlib.Core.Path.{sym, ◌∙◌}
use native.Mathlib.Omega.{arith}
use Rattle.pile.specs.Links.{linked_of}
use Rattle.pile.proofs.Wholes.{linked-there}
use Rattle.pile.proofs.linking.linked.Goals as goal

pub returns-then-unlinkable_at : goal.returns-then-unlinkable_at
unfolding linked_of
returns-then-unlinkable_at c = rw (sym c.unlinkable_at.ensures ∙ c.if-unlinkable_at.true)

pub overflow_sub-k : goal.overflow_sub-k
overflow_sub-k c =
    (linked-there _ _ c.unlinkable_at.ensures c.if-unlinkable_at.false).0

pub record_at-before-requires : goal.record_at-before-requires
record_at-before-requires c =
    let k = c.args.k in
    let h = linked-there _ k c.unlinkable_at.ensures c.if-unlinkable_at.false in
    omega (arith, h.0, h.1)

pub record_at-r-requires : goal.record_at-r-requires
record_at-r-requires c =
    (linked-there _ _ c.unlinkable_at.ensures c.if-unlinkable_at.false).1

pub returns : goal.returns
unfolding linked_of
returns c =
    let e = rw (c.record_at-before.ensures, c.record_at-r.ensures) at c.follows_on.ensures in
    rw (sym c.unlinkable_at.ensures ∙ c.if-unlinkable_at.false) e
