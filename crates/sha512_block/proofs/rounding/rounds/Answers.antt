-- `sha512_block::rounding::rounds` meets its contract. The loop keeps: the words and the working variables are those
-- before the next run of sixteen rounds.
use Rattle.std.proofs.Common.{arith, rules}
use Rattle.sha512_block.proofs.Rolling.{rolling-none, rolling-turns, rolling-last}
use Rattle.sha512_block.proofs.rounding.rounds.Goals as goal

pub loop-run-init : goal.loop-run-init
loop-run-init c = rolling-none _ _ _ (search rules) c.block_words-w.ensures

pub loop-run-preserved : goal.loop-run-preserved
loop-run-preserved c =
    rolling-turns 16 c.loop-run.invariant (omega arith) (omega arith) c.sixteen_turns-x.ensures

pub returns : goal.returns
returns c = rolling-last (omega arith) c.loop-run.invariant c.sixteen_rounds.ensures
