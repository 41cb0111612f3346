-- `tree_build::row::put_row` meets its contract. The loop keeps: the first `i` nodes are put.
use mathlib.Core.Path.{◌≡◌}
use Prim.Native.Nat.{◌+◌, ◌*◌, ◌≤◌, ◌-◌}
use native.Mathlib.Nat.{add-zero}
use native.Mathlib.Omega.{arith}
use Rattle.laws.specs.Flat.{flat}
use Rattle.laws.specs.Upto.{upto}
use Rattle.laws.specs.Written.{Puts}
use Rattle.laws.proofs.Written.{puts_none, puts-length}
use Rattle.tree_build.specs.Level.{bytes_of}
use Rattle.tree_build.proofs.Filling.{row_next}
use borrow.Author.Rules.{rules}
use Rattle.tree_build.proofs.row.put_row.Goals as goal

pub loop-i-init : goal.loop-i-init
unfolding upto flat
loop-i-init c = rw add-zero (puts_none _ _ (omega arith))

pub put_node-requires : goal.put_node-requires
put_node-requires c =
    let size = puts-length c.loop-i.invariant in
    search rules

pub loop-i-preserved : goal.loop-i-preserved
loop-i-preserved c =
    let l = c.loop-i in
    row_next c.args.row.now l.i l.invariant c.put_node.ensures

pub returns : goal.returns
returns c =
    let l = c.loop-i in
    let all : l.i ≡ c.args.n = omega arith in
    rw all at l.invariant

pub shape_of-out : goal.shape_of-out
shape_of-out c = puts-length c.loop-i.invariant
