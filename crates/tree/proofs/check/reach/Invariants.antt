-- `tree::check::reach` meets its contract. The loop keeps: what is left of the siblings leads from `h` where all lead
-- from `leaf`.
use Prim.Native.Nat.{◌/◌}
use mathlib.Core.Path.{◌≡◌}
use lib.ListN.{length, drop}
use Rattle.tree.specs.Tree.{nodes_in}
use Rattle.tree.specs.PathCheck.{climb}
use Rattle.tree.proofs.check.reach.Given as goal

abbrev pub invariant-loop-sibling : goal.invariant-loop-sibling
invariant-loop-sibling l =
    climb l.bits l.h (drop l.sibling-index (nodes_in (length l.fn.path / 32) l.fn.path))
    ≡ climb l.fn.indx l.fn.leaf (nodes_in (length l.fn.path / 32) l.fn.path)
