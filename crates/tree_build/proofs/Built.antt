-- The theorem in bytes: what `path` answers as written passes the check, from that leaf, against what `root` answers.
use Rattle.std.specs.Prelude.{Ok, Result}
use Rattle.refusal.specs.declared.Refusal.{Refusal}
use mathlib.Core.Path.{◌≡◌, refl, sym, ap, ◌∙◌}
use mathlib.Core.Bool.{true}
use mathlib.Core.List.{List}
use Prim.Native.Nat.{ℕ, zero, suc, ◌*◌, ◌/◌, ◌%◌, ◌^◌, ◌≤◌, ◌<◌}
use native.Mathlib.Omega.{arith}
use lib.ListN.{length, take, drop}
use lib.Seq.{take_at}
use borrow.Author.Tests.{eq-eqb, le-leb, lt-ltb}
use Rattle.laws.specs.Flat.{flat}
use Rattle.laws.specs.Written.{written}
use Rattle.laws.proofs.Same.{same_refl}
use Rattle.hash.specs.Hashes.{empty_place}
use Rattle.tree.specs.Tree.{node_in, nodes_in, node_at, depth_of, root_of, siblings, path_of}
use Rattle.tree.specs.PathCheck.{climb, reached, leads_of}
use Rattle.tree_build.specs.Leaves.{count_of, leaves_in, depth_in, most}
use Rattle.tree_build.specs.Building.{rooted_of, rooted_root, path_number, path_answer, path_bytes}
use Rattle.tree_build.specs.declared.Rooted.{Rooted}
use Rattle.tree_build.proofs.Leads.{path-leads}
use Rattle.tree.proofs.Nodes.{Whole, whole-siblings, leaves-long, tree-long, nodes-at, nodes-flat, flat-length}
use Rattle.tree_build.proofs.Depths.{depth-holds, depth-short}
use Rattle.tree_build.proofs.Leaves.{count-bounds}
use Rattle.tree_build.proofs.BuildingLaws.{rooted-some, path-there}

path-length : (node : ℕ → ℕ → List ℕ) (d k j : ℕ) → length (siblings node d k j) ≡ d
unfolding siblings
path-length node zero k j = refl
path-length node (suc d) k j = ap suc (path-length node d (suc k) (j / 2))

-- n siblings that lead to the root pass
leads-yes : (leaf path root : List ℕ) (i n : ℕ) → length path ≡ 32 * n → n ≤ 32 → i < 2 ^ n
    → climb i leaf (nodes_in n path) ≡ root → leads_of leaf i path root ≡ true
unfolding leads_of reached
leads-yes leaf path root i n l u h e =
    let q : length path / 32 ≡ n = omega arith in
    let z : length path % 32 ≡ 0 = omega arith in
    simp (q, eq-eqb _ _ z, le-leb n 32 u, lt-ltb i (2 ^ n) h, e) (same_refl root)

-- of n leaves in the bytes s, the path of each leads to the root
module _ (s : List ℕ) (n place : ℕ) (whole : 32 * n ≤ length s) (few : n ≤ most) (there : place < n) where
  abbrev path : List (List ℕ)
  path = path_of (nodes_in n s) (depth_of n) place

  path-whole : Whole path
  path-whole =
      whole-siblings (node_at (nodes_in n s)) (tree-long (nodes_in n s) (leaves-long n s whole)) (depth_of n) 0 place

  pub path_bytes_lem : length (flat path) ≡ 32 * depth_of n
  path_bytes_lem =
      flat-length path path-whole ∙ ap (λ (x : ℕ). 32 * x) (path-length (node_at (nodes_in n s)) (depth_of n) 0 place)

  pub built-leads :
      leads_of (node_in s place) place (flat path) (root_of (nodes_in n s) (depth_of n)) ≡ true
  unfolding node_at
  built-leads =
      let d = depth_of n in
      let inside : place < 2 ^ d = omega (arith, depth-holds n (omega arith) few) in
      let leaf : node_in s place ≡ node_at (nodes_in n s) 0 place = sym (nodes-at n s place empty_place there) in
      let back : nodes_in d (flat path) ≡ path =
      ap (λ (x : ℕ). nodes_in x (flat path)) (sym (path-length (node_at (nodes_in n s)) d 0 place))
      ∙ nodes-flat path path-whole in
      leads-yes _ (flat path) _ place d path_bytes_lem (depth-short n (omega arith) few) inside
      (ap (λ (h : List ℕ). climb place h (nodes_in d (flat path))) leaf
      ∙ ap (climb place (node_at (nodes_in n s) 0 place)) back
      ∙ path-leads (nodes_in n s) d place inside)

-- `path`, lent the leaves s and the buffer o, answered that it wrote, and left `out`; `root`, lent the leaves,
-- answered r: the siblings at the front of `out` lead from that leaf to r's root
pub answers-lead : (s o out : List ℕ) (place indx depth : ℕ) (r : Result Rooted Refusal)
    → Ok (indx, depth) ≡ path_answer (count_of (length s)) place (length o)
    → out ≡ written (path_number (Ok (indx, depth))) (path_bytes s place) o
    → r ≡ rooted_of s
    → leads_of (node_in s place) indx (take (32 * depth) out) (rooted_root r) ≡ true
unfolding path_bytes
answers-lead s o out place indx depth r answered left rooted =
    let n = count_of (length s) in
    let b = count-bounds (length s) in
    let right = path-there n place (length o) indx depth answered in
    let there = right.there in
    let bytes = flat (path_of (leaves_in s) (depth_in s) place) in
    let front : take (32 * depth) out ≡ bytes =
    ap (take (32 * depth)) left
    ∙ take_at bytes (drop (length bytes) o) (32 * depth)
    (path_bytes_lem s n place b.1 b.0 there ∙ ap (λ (x : ℕ). 32 * x) (sym right.deep)) in
    let root : rooted_root r ≡ root_of (leaves_in s) (depth_in s) =
    ap rooted_root (rooted ∙ sym (rooted-some s {n = n} refl refl (λ (z : n ≡ 0). omega arith) refl)) in
    rw (front, root, right.indx-is) (built-leads s n place b.1 b.0 there)
