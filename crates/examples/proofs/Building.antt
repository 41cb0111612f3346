-- The depth of a batch of so many leaves, and INDX and the siblings of one of them.
use Rattle.std.specs.Prelude.{Ok}
use mathlib.Core.Path.{◌≡◌, refl, sym, ap, ◌∙◌}
use mathlib.Core.List.{List}
use Prim.Native.Nat.{ℕ, ◌*◌, ◌≤◌, ◌<◌}
use native.Mathlib.Omega.{arith}
use lib.ListN.{length}
use Rattle.tree.specs.Tree.{depth_of}
use Rattle.tree_build.specs.Leaves.{count_of}
use Rattle.tree_build.specs.Building.{rooted_of, rooted_number, rooted_depth, path_answer, path_bytes}
use Rattle.tree_build.proofs.Leaves.{count-bounds}
use Rattle.tree_build.proofs.BuildingLaws.{rooted-some, path-written}
use Rattle.tree_build.proofs.Built.{path_bytes_lem}

-- n leaves, of a tree of depth d
module _ (n d : ℕ) (counted : count_of (32 * n) ≡ n) (deep : depth_of n ≡ d) (s : List ℕ) (long : length s ≡ 32 * n) where
  count : n ≡ count_of (length s)
  count = sym (ap count_of long ∙ counted)

  pub batch-rooted : 0 < n → (rooted_number (rooted_of s) ≡ 0) × (rooted_depth (rooted_of s) ≡ d)
  batch-rooted some =
      let e = rooted-some s count (sym deep) (λ z. omega arith) refl in
      (ap rooted_number (sym e), ap rooted_depth (sym e))

  pub batch-path : (place i room : ℕ) → place < n → place ≡ i → 32 * d ≤ room
      → (Ok (i, d) ≡ path_answer (count_of (length s)) place room) × (length (path_bytes s place) ≡ 32 * d)
  unfolding path_bytes
  batch-path place i room there e h =
      let b = count-bounds (length s) in
      let height : depth_of (count_of (length s)) ≡ d = ap depth_of (sym count) ∙ deep in (
        path-written count (sym deep) there (sym e) h,
        path_bytes_lem s (count_of (length s)) place b.1 b.0 (omega (arith, count)) ∙ ap (λ (x : ℕ). 32 * x) height,
      )
