-- `pile_tally::passing::any_contradiction` meets its contract. No two of the records before this one contradict, and
-- the state is what is kept of them.
use mathlib.Core.Path.{ap, ◌∙◌}
use native.Mathlib.Omega.{arith}
use Rattle.pile_runs.proofs.Past.{reads}
use Rattle.pile_tally.specs.Kept.{tallied}
use Rattle.pile_tally.proofs.Turns.{begin, caught, quiet-on, quiet-end}
use Rattle.pile_tally.proofs.passing.any_contradiction.Goals as goal

pub loop-verdict-init : goal.loop-verdict-init
loop-verdict-init c = (omega arith, begin _ c.start-tally.ensures)

pub returns-then-next : goal.returns-then-next
returns-then-next c =
    let loop = c.loop-verdict in
    let here = reads c.args.verdicts.now loop.verdict-index _ (omega arith) in
    let next = c.take_verdict-next.ensures ∙ ap (tallied loop.tally) here in
    caught loop.invariant.1 c.take_verdict-next.result next _ (omega arith) c.if-next.true

pub loop-verdict-preserved : goal.loop-verdict-preserved
loop-verdict-preserved c =
    let loop = c.loop-verdict in
    let here = reads c.args.verdicts.now loop.verdict-index _ (omega arith) in
    let next = c.take_verdict-next.ensures ∙ ap (tallied loop.tally) here in
    (omega arith, quiet-on loop.invariant.1 c.take_verdict-next.result next c.if-next.false)

pub returns : goal.returns
returns c = let loop = c.loop-verdict in quiet-end loop.invariant.1 _ loop.invariant.0 (omega arith)
