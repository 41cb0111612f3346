-- `tree_build::row::parents` meets its contract. The loop keeps: what is promised, up to node `i`.
use Prim.Native.Nat.{◌≤◌, ◌-◌}
use mathlib.Core.Path.{◌≡◌}
use lib.ListN.{length}
use native.Mathlib.Omega.{arith}
use Rattle.tree_build.specs.Level.{Halved}
use Rattle.tree_build.proofs.Filling.{halved-first, halved-next}
use borrow.Author.Rules.{rules}
use Rattle.tree_build.proofs.row.parents.Given as goal

abbrev pub invariant-loop-i : goal.invariant-loop-i
invariant-loop-i l =
    Halved l.row l.i (length l.initial.up) l.up
