-- `wire_message::rules::values_code` meets its contract. The scan has found no such row before this one.
use native.Mathlib.Omega.{arith}
use Prim.Native.Nat.{ℕ}
use mathlib.Core.Path.{sym, ap, ◌∙◌}
use lib.ListN.{length}
use Rattle.laws.proofs.Least.{least_zero, least-miss, least-found, somewhere-found, somewhere-none}
use Rattle.refusal.specs.Refusal.{refusal_at}
use Rattle.refusal.proofs.Passing.{test-alone, test-quiet-alone}
use Rattle.wire_message.specs.Rules.{row}
use Rattle.wire_message.specs.Values.{value_start}
use Rattle.wire_message.proofs.rules.values_code.Goals as goal

pub loop-row-init : goal.loop-row-init
loop-row-init c = least_zero _

pub returns-then-row_broken : goal.returns-then-row_broken
returns-then-row_broken c =
    let m = c.args.m.now in
    let t = c.args.table.now in
    let l = c.loop-row in
    let holds = sym c.row_broken.ensures ∙ c.if-row_broken.true in
    test-alone _
    (c.refuse_at.ensures
    ∙ ap (refusal_at 7)
    (c.value_start.ensures
    ∙ ap (λ (j : ℕ). value_start m (row t j).tag)
    (least-found _ l.row-index _ l.invariant holds c.loop-row-test.true))) tt
    (somewhere-found _ l.row-index _ l.invariant holds c.loop-row-test.true)

pub loop-row-preserved : goal.loop-row-preserved
loop-row-preserved c =
    let l = c.loop-row in
    least-miss _ l.row-index _ l.invariant c.row_broken.ensures c.if-row_broken.false

pub returns : goal.returns
returns c =
    let l = c.loop-row in
    test-quiet-alone _ (somewhere-none _ l.row-index (length c.args.table.now) l.invariant (omega arith) (omega arith))
