-- `tree_build::siblings::read_path` meets its contract. The loop keeps a `Writing`, and where its level starts.
use mathlib.Core.Path.{◌≡◌}
use Prim.Native.Nat.{◌+◌, ◌*◌, ◌^◌}
use native.Mathlib.Omega.{arith}
use Rattle.laws.proofs.Written.{puts-length}
use Rattle.tree.specs.Tree.{node_in}
use Rattle.tree_build.specs.AllRows.{laid_at}
use Rattle.tree_build.specs.declared.Wanted.TheVariants.{Sibling}
use Rattle.tree_build.proofs.Writing.{Writing, writing-first, writing-done, path-puts}
use Rattle.tree_build.proofs.Reading.{rows_next, rows-beside, rows-put}
use borrow.Author.Rules.{rules}
use Rattle.tree_build.proofs.siblings.read_path.Goals as goal

pub loop-left-init : goal.loop-left-init
loop-left-init c =
    let enough = c.requires.enough in
    (omega arith, writing-first c.width-n.ensures (record { inside = c.requires.inside; enough = omega arith }))

pub copy32-requires : goal.copy32-requires
copy32-requires c =
    let l = c.loop-left in
    rows-beside _ _ l.invariant.1 l.invariant.0 (omega arith) c.other.ensures c.requires.held

pub loop-left-preserved : goal.loop-left-preserved
unfolding node_in
loop-left-preserved c =
    let l = c.loop-left in
    let is = c.copy32.ensures in (
      rows_next _ _ l.invariant.1 l.invariant.0 (omega arith),
      rows-put _ _ l.invariant.1 l.invariant.0 (omega arith) c.other.ensures is c.put_node.ensures,
    )

pub returns : goal.returns
returns c =
    path-puts _ _ _ (writing-done c.loop-left.invariant.1 (omega arith))

pub shape_of-out : goal.shape_of-out
shape_of-out c = puts-length (returns c)
