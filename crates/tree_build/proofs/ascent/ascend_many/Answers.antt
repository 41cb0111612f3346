-- `tree_build::ascent::ascend_many` meets its contract. The loop keeps an `Ascending`, of the tree over the level
-- itself, of a large level that is not the root.
use mathlib.Core.Path.{◌≡◌}
use Prim.Native.Nat.{◌<◌}
use native.Mathlib.Omega.{arith}
use lib.ListN.{length}
use Rattle.laws.proofs.Written.{puts-length}
use Rattle.tree_build.specs.Leaves.{most}
use Rattle.tree_build.proofs.Ascending.{Ascending, level-itself, ascending-first, above-one, ascending-can}
use Rattle.tree_build.proofs.Ascending.{ascending-put, ascending-next, ascending-rest}
use Rattle.tree_build.proofs.Writing.{writing-fits}
use borrow.Author.Rules.{rules}
use Rattle.tree_build.proofs.ascent.ascend_many.Goals as goal

pub loop-n-init : goal.loop-n-init
loop-n-init c =
    let row = c.args.level in
    let size : length row ≡ most = search rules in
    let deep = c.requires.1 in
    let level = level-itself row c.width-n.result (omega (arith, c.width-n.ensures)) in
    let r = ascending-first c.width-n.ensures deep deep (level, size) c.requires.2 in
    (r, above-one r (omega arith))

pub put_part-at-requires : goal.put_part-at-requires
put_part-at-requires c =
    let l = c.loop-n in
    ascending-can l.invariant.0 l.invariant.1

pub ascend_few-requires : goal.ascend_few-requires
ascend_few-requires c =
    let l = c.loop-n in
    let w = ascending-put l.invariant.0 l.invariant.1 c.put_part-at.ensures in
    (omega (arith, w.wide), writing-fits w)

pub returns-then-n-le-FEW : goal.returns-then-n-le-FEW
returns-then-n-le-FEW c =
    let l = c.loop-n in
    ascending-rest
    (ascending-next l.invariant.0 l.invariant.1 c.put_part-at.ensures c.if-n-le-FEW.true
    c.halved-next.ensures)
    c.ascend_few.ensures

pub loop-n-preserved : goal.loop-n-preserved
loop-n-preserved c =
    let l = c.loop-n in
    let up = c.halved-up.ensures in
    let r = ascending-next l.invariant.0 l.invariant.1 c.put_part-at.ensures (omega arith) up in
    (r, above-one r (omega arith))

pub shape_of-out-then-n-le-FEW : goal.shape_of-out-then-n-le-FEW
shape_of-out-then-n-le-FEW c = puts-length (returns-then-n-le-FEW c).puts
