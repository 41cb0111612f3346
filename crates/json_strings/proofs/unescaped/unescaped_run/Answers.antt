use borrow.Author.Rules.{rules}
use mathlib.Core.Path.{refl, ◌∙◌}
use Rattle.json_strings.proofs.Runs.{run_none, run-one, run_inside}
use Rattle.json_strings.proofs.unescaped.unescaped_run.Goals as goal

pub loop-init : goal.loop-init
loop-init c = refl

pub returns-then-not-is_unescaped : goal.returns-then-not-is_unescaped
returns-then-not-is_unescaped c =
    run_none _ _ c.byte.ensures c.is_unescaped.ensures c.if-not-is_unescaped.true
    ∙ c.loop.invariant

pub overflow_add-k : goal.overflow_add-k
overflow_add-k c =
    let s = c.args.s.now in
    let i =
    run_inside s c.loop.k c.byte.ensures
    c.is_unescaped.ensures c.if-not-is_unescaped.false in search rules

pub loop-preserved : goal.loop-preserved
loop-preserved c =
    run-one _ _ c.byte.ensures c.is_unescaped.ensures c.if-not-is_unescaped.false
    ∙ c.loop.invariant

pub returns : goal.returns
returns c = c.in_stretches.ensures ∙ c.loop.invariant
