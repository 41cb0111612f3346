-- Where the sibling stands, number i of its level, in rows of which that level has n nodes, from number `first` on.
use mathlib.Core.Path.{◌≡◌, refl, ap, ◌∙◌}
use mathlib.Core.List.{List}
use Prim.Native.Nat.{ℕ, ◌+◌, ◌*◌, ◌-◌, ◌/◌, ◌^◌, ◌≤◌, ◌<◌}
use native.Mathlib.Omega.{arith}
use lib.ListN.{length}
use Rattle.laws.specs.Written.{Puts}
use Rattle.laws.proofs.Written.{puts-as}
use Rattle.tree.specs.Tree.{node_in, beside}
use Rattle.tree.proofs.Width.{pow-half}
use Rattle.tree_build.specs.AllRows.{nodes_of, level_start, laid_at}
use Rattle.tree_build.specs.declared.Wanted.TheVariants.{Sibling}
use Rattle.tree_build.proofs.AllRows.{start_is}
use Rattle.tree_build.proofs.Writing.{Writing, writing-next, sibling-put}

module _ (rows : List ℕ) (first : ℕ) {d place n left j at : ℕ} {o out : List ℕ}
    (r : Writing Sibling (laid_at rows d) d place o 0 n left j at out) (start : first + 2 * n ≡ 2 * 2 ^ d)
    (p : 0 < left) where
  -- the next level starts behind them
  pub rows_next : first + n + 2 * (n / 2) ≡ 2 * 2 ^ d
  rows_next =
      let w = pow-half left n p r.wide in
      omega (arith, w.0)

  module _ {i : ℕ} (e : i ≡ beside j) where
    pub rows-beside : 32 * nodes_of d ≤ length rows → 32 * (first + i) + 32 ≤ length rows
    rows-beside held =
        let w = pow-half left n p r.wide in
        omega (arith, w.0, r.inside)

    -- the sibling is put
    pub rows-put : {sibling next : List ℕ} → sibling ≡ node_in rows (first + i) → Puts out at sibling next (at + 32)
        → Writing Sibling (laid_at rows d) d place o 0 (n / 2) (left - 1) (j / 2) (at + 32) next
    rows-put is t =
        let level = start_is d (d - left) left (omega (arith, r.under)) in
        let number : first + i ≡ level_start d (d - left) + i = omega (arith, start, level, r.wide) in
        writing-next r p (sibling-put n j refl e (puts-as (is ∙ ap (node_in rows) number) t))
