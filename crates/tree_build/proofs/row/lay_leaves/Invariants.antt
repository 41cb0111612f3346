-- `tree_build::row::lay_leaves` meets its contract. The loop keeps: the first `i` places hold the leaves.
use Prim.Native.Nat.{ℕ, ◌≤◌, ◌<◌, ◌-◌}
use mathlib.Core.Path.{◌≡◌, refl, ◌∙◌}
use mathlib.Core.List.{[]}
use native.Mathlib.Omega.{arith}
use lib.ListN.{length, get_or, length-set}
use Rattle.laws.proofs.Fill.{fill-next}
use Rattle.tree.specs.Tree.{node_in}
use Rattle.tree_build.proofs.Filling.{level-padded}
use borrow.Author.Rules.{rules}
use Rattle.tree_build.proofs.row.lay_leaves.Given as goal

abbrev pub invariant-loop-i : goal.invariant-loop-i
invariant-loop-i l =
    (length l.row ≡ length l.initial.row) × ((j : ℕ) → j < l.i → get_or l.row j [] ≡ node_in l.leaves j)
