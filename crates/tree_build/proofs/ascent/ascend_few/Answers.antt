-- `tree_build::ascent::ascend_few` meets its contract. The loop keeps an `Ascending`, of the tree over the level
-- itself.
use mathlib.Core.Path.{◌≡◌}
use native.Mathlib.Omega.{arith}
use lib.ListN.{length}
use Rattle.laws.proofs.Written.{puts-length}
use Rattle.tree_build.specs.Level.{few}
use Rattle.tree_build.proofs.Ascending.{Ascending, level-itself, ascending-first, ascending-can, ascending-next}
use Rattle.tree_build.proofs.Ascending.{ascending-done}
use borrow.Author.Rules.{rules}
use Rattle.tree_build.proofs.ascent.ascend_few.Goals as goal

pub loop-left-init : goal.loop-left-init
loop-left-init c =
    let size : length c.args.level ≡ few = search rules in
    ascending-first c.width-n.ensures (omega arith) c.requires.0 (level-itself _ _ (omega arith), size) c.requires.1

pub put_part-at-requires : goal.put_part-at-requires
put_part-at-requires c = ascending-can c.loop-left.invariant (omega arith)

pub loop-left-preserved : goal.loop-left-preserved
loop-left-preserved c =
    ascending-next c.loop-left.invariant (omega arith) c.put_part-at.ensures (omega arith)
    c.halved-up.ensures

pub returns : goal.returns
returns c = ascending-done c.loop-left.invariant (omega arith)

pub shape_of-out : goal.shape_of-out
shape_of-out c = puts-length (returns c).puts
