-- `tree_build::ascent::ascend_few` meets its contract. The loop keeps an `Ascending`, of the tree over the level
-- itself.
use mathlib.Core.Path.{◌≡◌}
use native.Mathlib.Omega.{arith}
use lib.ListN.{length}
use Rattle.laws.proofs.Written.{puts-length}
use Rattle.tree_build.specs.Level.{few}
use Rattle.tree_build.proofs.Ascending.{Ascending, level-itself, ascending-first, ascending-can, ascending-next}
use Rattle.tree_build.proofs.Ascending.{ascending-done}
use borrow.Author.Rules.{rules}
use Rattle.tree_build.proofs.ascent.ascend_few.Given as goal

abbrev pub invariant-loop-left : goal.invariant-loop-left
invariant-loop-left l =
    Ascending l.initial.row l.d l.wanted l.initial.j l.initial.out l.initial.at few l.left l.n l.row l.j l.at l.out
