-- `walk::starting::begun` meets its contract.
use native.Mathlib.Nat.{zero-add}
use lib.ListN.{length}
use Rattle.laws.proofs.Written.{puts_one, written-whole}
use Rattle.walk.specs.Starting.{begun_walk}
use Rattle.walk.proofs.starting.begun.Goals as goal

pub returns : goal.returns
unfolding begun_walk
returns c =
    let keys = c.args.keys.now in
    let w = puts_one keys (length keys) c.put.ensures (zero-add (length keys)) c.requires in
    rw (written-whole w)
