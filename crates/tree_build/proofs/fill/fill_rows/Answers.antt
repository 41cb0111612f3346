-- `tree_build::fill::fill_rows` meets its contract.
use native.Mathlib.Omega.{arith}
use lib.Pow.{pow_pos}
use Rattle.laws.proofs.Written.{puts-length}
use Rattle.tree_build.proofs.Ascending.{rows-puts}
use borrow.Author.Rules.{rules}
use Rattle.tree_build.proofs.fill.fill_rows.Goals as goal

-- the leaves are there, and the rows below the root have room

pub ascend_over-root-requires : goal.ascend_over-root-requires
ascend_over-root-requires c =
    let can = c.requires in
    let some = pow_pos c.args.d in (
      record { few = can.few; whole = omega (arith, can.few, can.held, some); deep = can.deep },
      record { inside = some; enough = omega (arith, can.held, some) },
    )

-- the root has room behind the rows below it

pub overflow_sub-bytes : goal.overflow_sub-bytes
overflow_sub-bytes c =
    let d = c.args.d in
    omega (arith, c.bytes.ensures, pow_pos d)

pub put_node-requires : goal.put_node-requires
put_node-requires c =
    let size = puts-length c.ascend_over-root.ensures.puts in
    omega (arith, c.bytes.ensures, pow_pos c.args.d, c.requires.held, size)

pub returns : goal.returns
returns c =
    let size = c.bytes.ensures in
    rw size at (rows-puts size c.ascend_over-root.ensures c.put_node.ensures)

pub shape_of-rows : goal.shape_of-rows
shape_of-rows c = puts-length (returns c)
