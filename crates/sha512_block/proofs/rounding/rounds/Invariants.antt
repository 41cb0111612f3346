-- `sha512_block::rounding::rounds` meets its contract. The loop keeps: the words and the working variables are those
-- before the next run of sixteen rounds.
use Rattle.std.proofs.Common.{◌*◌}
use Rattle.sha512_block.specs.Rolling.{turning}
use Rattle.sha512_block.proofs.Rolling.{Rolling}
use Rattle.sha512_block.proofs.rounding.rounds.Given as goal

abbrev pub invariant-loop-run : goal.invariant-loop-run
invariant-loop-run l = Rolling l.b l.initial.x (16 * l.run) (turning l.x l.w)
