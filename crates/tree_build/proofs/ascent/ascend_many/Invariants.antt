-- `tree_build::ascent::ascend_many` meets its contract. The loop keeps an `Ascending`, of the tree over the level
-- itself, of a large level that is not the root.
use mathlib.Core.Path.{◌≡◌}
use Prim.Native.Nat.{◌<◌}
use native.Mathlib.Omega.{arith}
use lib.ListN.{length}
use Rattle.laws.proofs.Written.{puts-length}
use Rattle.tree_build.specs.Leaves.{most}
use Rattle.tree_build.proofs.Ascending.{Ascending, level-itself, ascending-first, above-one, ascending-can}
use Rattle.tree_build.proofs.Ascending.{ascending-put, ascending-next, ascending-rest}
use Rattle.tree_build.proofs.Writing.{writing-fits}
use borrow.Author.Rules.{rules}
use Rattle.tree_build.proofs.ascent.ascend_many.Given as goal

abbrev pub invariant-loop-n : goal.invariant-loop-n
invariant-loop-n l =
    Ascending l.initial.row l.initial.left l.wanted l.initial.j l.initial.out 0 most l.left l.n l.row l.j l.at l.out × (0 < l.left)

abbrev pub decreases-loop-n : goal.decreases-loop-n
decreases-loop-n l = l.left
