-- What a server relies on: out of the rows that `rows` wrote, `path_from` answers and writes what `path` does, and
-- their last node is the root.
use Rattle.refusal.specs.declared.Refusal.{Refusal}
use Rattle.std.specs.Prelude.{Err, Ok, Result}
use mathlib.Core.Bool.{true}
use mathlib.Core.Path.{◌≡◌, refl, sym, ap, ◌∙◌}
use mathlib.Core.List.{List, ◌++◌}
use Prim.Native.Nat.{ℕ, ◌*◌, ◌-◌, ◌^◌, ◌≤◌, ◌<◌}
use native.Mathlib.Omega.{arith}
use lib.ListN.{length, take, drop, length-append}
use lib.Pow.{pow_pos}
use Rattle.laws.specs.Flat.{flat}
use Rattle.laws.specs.Written.{written}
use Rattle.laws.proofs.Written.{written-refused}
use Rattle.tree.specs.PathCheck.{leads_of}
use Rattle.tree.specs.Tree.{node_in, node_at}
use Rattle.tree_build.specs.AllRows.{levels, nodes_of, path_in}
use Rattle.tree_build.specs.Leaves.{count_of, leaves_in, depth_in, held_of}
use Rattle.tree_build.specs.Building.{rooted_of, rooted_root, path_number, path_answer, path_bytes, from_bytes}
use Rattle.tree_build.specs.Building.{rows_number, rows_answer, rows_bytes}
use Rattle.tree_build.specs.declared.Rooted.{Rooted}
use Rattle.tree.proofs.Nodes.{leaves-long, node-long, tree-long}
use Rattle.tree_build.proofs.Depths.{depth-holds}
use Rattle.tree_build.proofs.Leaves.{count-bounds, held_all}
use Rattle.tree_build.proofs.AllRows.{rows-length, path-laid, root-laid}
use Rattle.tree_build.proofs.BuildingLaws.{RowsThere, rooted-some, path-there, path-refused, rows-there}
use Rattle.tree_build.proofs.Built.{answers-lead}

-- `rows`, lent the leaves s and the buffer o, answered that it wrote, and left the bytes b
module _ (s o b : List ℕ) (depth : ℕ)
    (answered : Ok depth ≡ rows_answer (count_of (length s)) (length o))
    (left : b ≡ written (rows_number (Ok depth)) (rows_bytes s) o) where
  abbrev n : ℕ
  n = count_of (length s)

  right : RowsThere n depth
  right = rows-there n (length o) depth answered

  long : (k j : ℕ) → length (node_at (leaves_in s) k j) ≡ 32
  long = tree-long (leaves_in s) (leaves-long n s (count-bounds (length s)).1)

  is : b ≡ flat (levels (leaves_in s) (depth_in s) 0) ++ drop (length (rows_bytes s)) o
  unfolding rows_bytes
  is = left

  whole : 32 * nodes_of (depth_in s) ≤ length b
  whole =
      let size = ap length is ∙ length-append (flat (levels (leaves_in s) (depth_in s) 0)) _ in
      omega (arith, size, rows-length (leaves_in s) long (depth_in s))

  held : held_of (length b) n ≡ n
  held = held_all (length b) n (count-bounds (length s)).0 whole

  -- the last node has its 32 bytes
  pub last-long : length (node_in b (nodes_of depth - 1)) ≡ 32
  last-long =
      let some : 1 ≤ nodes_of depth = omega (arith, pow_pos depth) in
      node-long b (nodes_of depth - 1) (omega (arith, whole, ap nodes_of right.deep))

  same_bytes : (place : ℕ) → place < n → from_bytes b n place ≡ path_bytes s place
  unfolding from_bytes path_bytes
  same_bytes place there =
      let inside : place < 2 ^ depth_in s = omega (arith, depth-holds n right.some (count-bounds (length s)).0) in
      ap flat
      (ap (λ (l : List ℕ). path_in l (depth_in s) place) is ∙ path-laid (leaves_in s) long _ (depth_in s) place inside)

  same_left : (place : ℕ) (q : List ℕ) (x : Result (ℕ × ℕ) Refusal) → x ≡ path_answer n place (length q)
      → written (path_number x) (from_bytes b n place) q ≡ written (path_number x) (path_bytes s place) q
  same_left place q (Err why) e =
      let none = path-refused n place (length q) why e in
      sym (written-refused why.code (from_bytes b n place) q none)
      ∙ written-refused why.code (path_bytes s place) q none
  same_left place q (Ok (indx, depth)) e =
      ap (λ (t : List ℕ). written 0 t q) (same_bytes place (path-there n place (length q) indx depth e).there)

  -- any answer x and buffer u that `path_from` may leave, of the bytes b, are those, y and v, of `path`
  pub served : (place : ℕ) (q u v : List ℕ) (x y : Result (ℕ × ℕ) Refusal)
      → x ≡ path_answer (held_of (length b) n) place (length q)
      → u ≡ written (path_number x) (from_bytes b n place) q
      → y ≡ path_answer n place (length q)
      → v ≡ written (path_number y) (path_bytes s place) q
      → (x ≡ y) × (u ≡ v)
  served place q u v x y x-right u-is y-right v-is =
      let right = rw held at x-right in
      let same = right ∙ sym y-right in
      let other = ap (λ (r : Result (ℕ × ℕ) Refusal). written (path_number r) (path_bytes s place) q) same in
      (same, u-is ∙ same_left place q x right ∙ other ∙ sym v-is)

  pub last-is-root : (r : Result Rooted Refusal) → r ≡ rooted_of s → node_in b (nodes_of depth - 1) ≡ rooted_root r
  last-is-root r rooted =
      let some : n ≡ 0 → ⊥ = λ z. omega (arith, right.some) in
      let root = ap rooted_root (rooted ∙ sym (rooted-some s {n = n} refl refl some refl)) in
      ap (λ (d : ℕ). node_in b (nodes_of d - 1)) right.deep
      ∙ ap (λ (l : List ℕ). node_in l (nodes_of (depth_in s) - 1)) is
      ∙ root-laid (leaves_in s) long _ (depth_in s)
      ∙ sym root

  -- so that the siblings at the front of what `path_from` leaves lead from that leaf to the last node of the rows
  pub served-leads : (place : ℕ) (q u : List ℕ) (indx siblings : ℕ)
      → Ok (indx, siblings) ≡ path_answer (held_of (length b) n) place (length q)
      → u ≡ written 0 (from_bytes b n place) q
      → leads_of (node_in s place) indx (take (32 * siblings) u) (node_in b (nodes_of depth - 1)) ≡ true
  served-leads place q u indx siblings x-right u-is =
      let right = rw held at x-right in
      let left = u-is ∙ same_left place q (Ok (indx, siblings)) right in
      rw (last-is-root (rooted_of s) refl) (answers-lead s q u place indx siblings (rooted_of s) right left refl)
