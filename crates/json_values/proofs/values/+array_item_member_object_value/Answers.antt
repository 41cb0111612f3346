use borrow.Author.Rules.{rules}
use native.Mathlib.Omega.{arith}
use mathlib.Core.Path.{◌∙◌}
use Rattle.json_values.specs.Value.{item_step, member_step, value_at}
use Rattle.json_tokens.proofs.Picks.{picks}
use Rattle.json_values.proofs.Ahead.{forth-items, forth-members, as-goes, value-is, array-none, object-none, array-list, object-list}
use Rattle.json_values.proofs.values.+array_item_member_object_value.Goals as goal

pub array-returns-in_err-inner : goal.array-returns-in_err-inner
array-returns-in_err-inner t c =
    let z = c.in_err-inner.ensures in c.from_residual.ensures ∙ array-none _ _ _ (omega arith)

pub array-list-requires-clause-forth : goal.array-list-requires-clause-forth
array-list-requires-clause-forth t c = λ k r e.
    rw e (as-goes c.args.s.now k _ (forth-items c.args.s.now c.in_ok-inner.inner k))

pub array-returns : goal.array-returns
array-returns t c =
    array-list c.args.s.now c.args.depth c.args.at c.in_ok-inner.inner
    (omega (arith, c.in_ok-inner.ensures.0, c.in_ok-inner.ensures.1))
    (c.list.ensures _ (λ k. as-goes c.args.s.now k _ (forth-items c.args.s.now c.in_ok-inner.inner k)) (λ k r e. e))

pub object-returns-in_err-inner : goal.object-returns-in_err-inner
object-returns-in_err-inner t c =
    let z = c.in_err-inner.ensures in c.from_residual.ensures ∙ object-none _ _ _ (omega arith)

pub object-list-requires-clause-forth : goal.object-list-requires-clause-forth
object-list-requires-clause-forth t c = λ k r e.
    rw e (as-goes c.args.s.now k _ (forth-members c.args.s.now c.in_ok-inner.inner k))

pub object-returns : goal.object-returns
object-returns t c =
    object-list c.args.s.now c.args.depth c.args.at c.in_ok-inner.inner
    (omega (arith, c.in_ok-inner.ensures.0, c.in_ok-inner.ensures.1))
    (c.list.ensures _ (λ k. as-goes c.args.s.now k _ (forth-members c.args.s.now c.in_ok-inner.inner k)) (λ k r e. e))

pub item-returns-in_default : goal.item-returns-in_default
unfolding item_step
item-returns-in_default t c = search (picks, rules)

pub item-returns : goal.item-returns
unfolding item_step
item-returns t c = search (picks, rules)

pub member-returns-in_default : goal.member-returns-in_default
unfolding member_step
member-returns-in_default t c = search (picks, rules) depth 7

pub member-returns-in_default-colon : goal.member-returns-in_default-colon
unfolding member_step
member-returns-in_default-colon t c = search (picks, rules) depth 7

pub member-returns-in_default-value : goal.member-returns-in_default-value
unfolding member_step
member-returns-in_default-value t c = search (picks, rules) depth 7

pub member-returns : goal.member-returns
unfolding member_step
member-returns t c = search (picks, rules) depth 7

pub value-returns-then-b-eq123 : goal.value-returns-then-b-eq123
value-returns-then-b-eq123 t c = rw (value-is c.args.s.now c.args.depth _) (search (picks, rules))

pub value-returns-then-b-eq91 : goal.value-returns-then-b-eq91
value-returns-then-b-eq91 t c = rw (value-is c.args.s.now c.args.depth _) (search (picks, rules))

pub value-returns-else-b-eq91 : goal.value-returns-else-b-eq91
value-returns-else-b-eq91 t c =
    let e = c.again.ensures ∙ c.plain.ensures in
    rw (value-is c.args.s.now c.args.depth _) (search (picks, rules))
