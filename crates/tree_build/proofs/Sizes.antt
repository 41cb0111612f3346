-- How many bytes the rows of a batch have, as `rows` writes them.
use mathlib.Core.Path.{◌≡◌, sym}
use mathlib.Core.List.{List}
use Prim.Native.Nat.{ℕ, ◌<◌}
use native.Mathlib.Omega.{arith}
use borrow.Author.Tests.{ne_eqb}
use lib.ListN.{length}
use Rattle.tree.proofs.Nodes.{leaves-long, tree-long}
use Rattle.tree_build.specs.Building.{rows_bytes}
use Rattle.tree_build.specs.Leaves.{count_of, leaves_in, depth_in, rows_length}
use Rattle.tree_build.proofs.AllRows.{rows-length}
use Rattle.tree_build.proofs.Leaves.{count-bounds}

-- of the leaves s, what is written has the length that is told
pub rows-size : (s : List ℕ) → 0 < count_of (length s) → rows_length (length s) ≡ length (rows_bytes s)
unfolding rows_length rows_bytes
rows-size s some =
    let long = tree-long (leaves_in s) (leaves-long (count_of (length s)) s (count-bounds (length s)).1) in
    rw (ne_eqb (count_of (length s)) 0 (λ z. omega (arith, some, z))) (sym (rows-length (leaves_in s) long (depth_in s)))
