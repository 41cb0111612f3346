-- `old_stamp::reading::moment` meets its contract.
use native.Mathlib.Omega.{arith}
use Rattle.old_stamp.proofs.reading.moment.Goals as goal

pub returns : goal.returns
returns c = omega arith
