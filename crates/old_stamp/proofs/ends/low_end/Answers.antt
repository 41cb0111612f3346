-- `old_stamp::ends::low_end` meets its contract.
use native.Mathlib.Omega.{arith}
use Rattle.old_stamp.specs.Window.{low_at}
use Rattle.old_stamp.proofs.ends.low_end.Goals as goal

pub returns : goal.returns
unfolding low_at
returns c = omega arith
