-- `tree_build::siblings::read_path` meets its contract. The loop keeps a `Writing`, and where its level starts.
use mathlib.Core.Path.{◌≡◌}
use Prim.Native.Nat.{◌+◌, ◌*◌, ◌^◌}
use native.Mathlib.Omega.{arith}
use Rattle.laws.proofs.Written.{puts-length}
use Rattle.tree.specs.Tree.{node_in}
use Rattle.tree_build.specs.AllRows.{laid_at}
use Rattle.tree_build.specs.declared.Wanted.TheVariants.{Sibling}
use Rattle.tree_build.proofs.Writing.{Writing, writing-first, writing-done, path-puts}
use Rattle.tree_build.proofs.Reading.{rows_next, rows-beside, rows-put}
use borrow.Author.Rules.{rules}
use Rattle.tree_build.proofs.siblings.read_path.Given as goal

abbrev pub invariant-loop-left : goal.invariant-loop-left
invariant-loop-left l =
    (l.first + 2 * l.n ≡ 2 * 2 ^ l.d) × Writing Sibling (laid_at l.rows l.d) l.d l.initial.place l.initial.out 0 l.n l.left l.place l.at l.out
