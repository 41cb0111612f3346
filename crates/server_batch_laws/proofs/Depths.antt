-- A tree over the leaves of a batch has at most ten levels above them.
use mathlib.Core.Path.{◌≡◌, refl}
use Prim.Native.Nat.{ℕ, ◌≤◌}
use native.Mathlib.Omega.{arith}
use Rattle.laws.specs.Least.{least}
use Rattle.server_batch.proofs.Depths.{depth-mono}
use Rattle.tree.specs.Tree.{depth_of}
use Rattle.tree_build.specs.Leaves.{most}

depth-most : depth_of most ≡ 10
unfolding depth_of least
depth-most = refl

pub depth-ten : (n : ℕ) → n ≤ most → depth_of n ≤ 10
depth-ten n few = omega (arith, depth-most, depth-mono n most few (omega arith))
