-- `sha512_block::quiet::quiet_rounds` meets its contract. The loop keeps: the working variables are those before the next
-- run of sixteen rounds.
use Rattle.std.proofs.Common.{◌≡◌, ◌*◌, replicate}
use Rattle.sha512_block.specs.Rounds.{rounds}
use Rattle.sha512_block.proofs.quiet.quiet_rounds.Given as goal

abbrev pub invariant-loop-run : goal.invariant-loop-run
invariant-loop-run l = l.x ≡ rounds (replicate 80 0) l.initial.x (16 * l.run)
