-- The theorem: the path of any leaf, checked with its place as INDX, gives the root, whatever the depth. Proved once,
-- over the depth.
use mathlib.Core.Path.{◌≡◌, ap, ap₂, ◌∙◌}
use mathlib.Core.List.{List}
use mathlib.Core.Logic.{⊎_elim}
use Prim.Native.Nat.{ℕ, zero, suc, ◌+◌, ◌*◌, ◌/◌, ◌%◌, ◌^◌, ◌<◌}
use native.Mathlib.Nat.{eq-zero-or-pos}
use native.Mathlib.Omega.{arith}
use Rattle.hash.specs.Hashes.{parent_of}
use Rattle.tree.specs.Tree.{node_at, root_of, beside, siblings, path_of}
use Rattle.tree.specs.PathCheck.{step, climb}
use Rattle.tree.proofs.Climbs.{step-zero, step-one}

-- a node and its sibling give their parent, by the lowest bit of the node's place
meet : (xs : List (List ℕ)) (k p : ℕ)
    → step (p % 2) (node_at xs k p) (node_at xs k (beside p)) ≡ node_at xs (suc k) (p / 2)
unfolding node_at
meet xs k p = ⊎_elim
    (λ (e : p % 2 ≡ 0).
    let l : p ≡ 2 * (p / 2) = omega arith in
    let r : beside p ≡ 2 * (p / 2) + 1 = omega arith in
    step-zero _ _ _ e ∙ ap₂ parent_of (ap (node_at xs k) l) (ap (node_at xs k) r))
    (λ (e : 0 < p % 2).
    let l : p ≡ 2 * (p / 2) + 1 = omega arith in
    let r : beside p ≡ 2 * (p / 2) = omega arith in
    step-one _ _ _ (λ (z : p % 2 ≡ 0). omega arith) ∙ ap₂ parent_of (ap (node_at xs k) r) (ap (node_at xs k) l))
    (eq-zero-or-pos (p % 2))

-- from any level k, to level t
climbs : (xs : List (List ℕ)) (d k t p : ℕ) → p < 2 ^ d → k + d ≡ t
    → climb p (node_at xs k p) (siblings (node_at xs) d k p) ≡ node_at xs t 0
unfolding climb siblings
climbs xs zero k t p h e =
    let z : p ≡ 0 = omega arith in
    let q : k ≡ t = omega arith in
    rw (z, q)
climbs xs (suc d) k t p h e =
    ap (λ (x : List ℕ). climb (p / 2) x (siblings (node_at xs) d (suc k) (p / 2))) (meet xs k p)
    ∙ climbs xs d (suc k) t (p / 2) (omega arith) (omega arith)

-- from the leaves
pub path-leads : (xs : List (List ℕ)) (d p : ℕ) → p < 2 ^ d
    → climb p (node_at xs 0 p) (path_of xs d p) ≡ root_of xs d
path-leads xs d p h = climbs xs d 0 d p h (omega arith)
