-- `sha512_block::quiet::quiet_rounds` meets its contract. The loop keeps: the working variables are those before the next
-- run of sixteen rounds.
use Rattle.std.proofs.Common.{◌≡◌, ◌*◌, refl, arith}
use Rattle.sha512_block.specs.Rounds.{rounds}
use Rattle.sha512_block.proofs.Rolling.{quiet-more}
use Rattle.sha512_block.proofs.quiet.quiet_rounds.Goals as goal

pub loop-run-init : goal.loop-run-init
unfolding rounds
loop-run-init c = refl

pub loop-run-preserved : goal.loop-run-preserved
loop-run-preserved c =
    quiet-more _ _ _ 16 refl (omega arith) (omega arith) c.loop-run.invariant c.sixteen_rounds-x.ensures

pub returns : goal.returns
returns c = let all : 16 * c.loop-run.run ≡ 80 = omega arith in rw all at c.loop-run.invariant
