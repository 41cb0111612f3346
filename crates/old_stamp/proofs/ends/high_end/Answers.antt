-- `old_stamp::ends::high_end` meets its contract.
use native.Mathlib.Omega.{arith}
use Rattle.old_stamp.specs.Window.{high_at}
use Rattle.old_stamp.proofs.ends.high_end.Goals as goal

pub returns : goal.returns
unfolding high_at
returns c = omega arith
