-- `octets::buffers::put` meets its contract: the part that is lent is as long as src, and comes back with src in it.
use native.Mathlib.Omega.{arith}
use Rattle.laws.proofs.Pasted.{part-back}
use Rattle.octets.proofs.buffers.put.Goals as goal

pub returns : goal.returns
returns c = part-back c.args.dst.now c.args.at _ c.copy_from_slice.ensures.after (omega arith)
