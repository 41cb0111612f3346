use borrow.Author.Rules.{rules}
use native.Mathlib.Omega.{arith}
use mathlib.Core.Path.{sym, ◌∙◌}
use lib.ListN.{length}
use Rattle.json_strings.specs.Text.{unit_step, string_at}
use Rattle.json_strings.proofs.Ahead.{forth-unit}
use Rattle.json_strings.proofs.Runs.{run-begun, run-closed}
use Rattle.json_strings.proofs.Units.{units}
use Rattle.json_tokens.proofs.Turns.{walked_more, turn-ahead, turn-falls, walked_end, walked-wrong}
use Rattle.json_strings.proofs.strings.string.Goals as goal

pub returns-then-b-ne34 : goal.returns-then-b-ne34
unfolding string_at
returns-then-b-ne34 c = search (units, rules)

pub overflow_add-at : goal.overflow_add-at
overflow_add-at c = search (units, rules)

pub returns-then-byte-eq34 : goal.returns-then-byte-eq34
returns-then-byte-eq34 c =
    sym (run-closed _ _ c.byte-b.ensures c.if-b-ne34.false
    c.run_from-k.ensures c.byte.ensures c.if-byte-eq34.true).0

pub loop-n-init : goal.loop-n-init
loop-n-init c =
    sym (run-begun _ _ c.byte-b.ensures c.if-b-ne34.false
    c.run_from-k.ensures)

pub onward-k-requires : goal.onward-k-requires
onward-k-requires c =
    turn-ahead _ (unit_step _) (forth-unit _) _ c.unit_step.ensures c.in-More.is

pub loop-n-smaller : goal.loop-n-smaller
loop-n-smaller c =
    let s = c.args.s.now in
    let f =
    turn-falls (length s) (unit_step s) (forth-unit s) c.loop-n.k
    c.unit_step.ensures c.in-More.is in
    omega (arith, f, c.onward-k.ensures.1)

pub loop-n-preserved : goal.loop-n-preserved
loop-n-preserved c =
    c.onward-k.ensures.0
    ∙ walked_more _ _ (forth-unit _) _ c.unit_step.ensures
    c.in-More.is
    ∙ c.loop-n.invariant

pub returns-in-End : goal.returns-in-End
returns-in-End c =
    walked_end _ _ _ c.unit_step.ensures c.in-End.is
    ∙ c.loop-n.invariant

pub returns-in-Wrong : goal.returns-in-Wrong
returns-in-Wrong c =
    walked-wrong _ _ _ c.unit_step.ensures c.in-Wrong.is
    ∙ c.loop-n.invariant

pub overflow_add-result : goal.overflow_add-result
overflow_add-result c = search (units, rules)
