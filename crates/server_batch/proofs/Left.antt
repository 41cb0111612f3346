-- What is left of a batch of which some packets are answered: the rows of the tree over their leaves, and the answers.
use mathlib.Core.Bool.{Bool, true, false, cond}
use mathlib.Core.List.{List, [], ◌∷◌, ◌++◌}
use mathlib.Core.Path.{◌≡◌, refl, sym, ap, subst, ◌∙◌}
use Prim.Native.Nat.{ℕ, zero, suc, ◌+◌, ◌*◌, ◌-◌, ◌/◌, ◌%◌, ◌^◌, ◌≤◌, ◌<◌}
use native.Mathlib.Numerals.{add-one}
use native.Mathlib.Omega.{arith}
use borrow.Author.Tests.{eq-eqb, le-leb}
use lib.ListN.{length, drop, length-append}
use lib.Pow.{pow_pos}
use Rattle.laws.specs.Flat.{flat}
use Rattle.laws.specs.Pasted.{pasted}
use Rattle.laws.specs.Written.{Puts, written}
use Rattle.laws.proofs.Written.{written-whole}
use Rattle.tree.specs.Tree.{node_in, nodes_in, node_at, depth_of, root_of, path_of}
use Rattle.tree.proofs.Nodes.{Whole, whole_append, flat-length, nodes-flat, leaves-long, tree-long}
use Rattle.tree_build.specs.AllRows.{levels, nodes_of, path_in}
use Rattle.tree_build.specs.Building.{rows_bytes}
use Rattle.tree_build.specs.Leaves.{most, count_of}
use Rattle.tree_build.proofs.AllRows.{path-laid, root-laid}
use Rattle.tree_build.proofs.Built.{path_bytes_lem}
use Rattle.tree_build.proofs.Depths.{depth-holds}
use Rattle.tree_build.proofs.AllRows.{rows-over}
use Rattle.server_batch.specs.Picking.{how_many, picked}

-- ---- The leaves that are picked

module _ (p : ℕ → Bool) (f : ℕ → List ℕ) where
  pub picked-length : (n : ℕ) → length (picked p f n) ≡ how_many p n
  unfolding picked how_many
  picked-length zero = refl
  picked-length (suc n) = by (p n) ∙ ap (λ (k : ℕ). cond (p n) (suc k) k) (picked-length n)
    where
      by : (t : Bool) → length (cond t (picked p f n ++ (f n ∷ [])) (picked p f n))
          ≡ cond t (suc (length (picked p f n))) (length (picked p f n))
      by true = length-append (picked p f n) (f n ∷ []) ∙ add-one _
      by false = refl

  pub picked-whole : ((i : ℕ) → length (f i) ≡ 32) → (n : ℕ) → Whole (picked p f n)
  unfolding picked
  picked-whole long zero = tt
  picked-whole long (suc n) = by (p n) (picked-whole long n)
    where
      by : (t : Bool) → Whole (picked p f n) → Whole (cond t (picked p f n ++ (f n ∷ [])) (picked p f n))
      by true w = whole_append (picked p f n) (f n ∷ []) w (long n, tt)
      by false w = w

-- ---- k whole leaves xs stood at the front of the rows, which were o before and are c now

module _ (xs : List (List ℕ)) (k : ℕ) (w : Whole xs) (n : length xs ≡ k) (some : 0 < k) (few : k ≤ most)
    (o r c : List ℕ) (put : Puts o 0 (flat xs) r (32 * k))
    (laid : Puts r 0 (flat (levels (nodes_in k r) (depth_of k) 0)) c (32 * nodes_of (depth_of k)))
    (room : 32 * nodes_of (depth_of k) ≤ length o) where
  abbrev d : ℕ
  d = depth_of k

  bytes : length (flat xs) ≡ 32 * k
  bytes = flat-length xs w ∙ ap (λ (m : ℕ). 32 * m) n

  back : nodes_in k (flat xs) ≡ xs
  back = ap (λ (m : ℕ). nodes_in m (flat xs)) (sym n) ∙ nodes-flat xs w

  holds : k ≤ 2 ^ d
  holds = depth-holds k some few

  all : Puts o 0 (flat (levels xs d 0)) c (32 * nodes_of d)
  all =
      let less : 32 * k ≤ 32 * nodes_of d = omega (arith, holds, pow_pos d) in
      rw back at (rows-over (flat xs) k d put.is bytes less room laid)

  counted : count_of (length (flat xs)) ≡ k
  unfolding count_of
  counted =
      let q : length (flat xs) / 32 ≡ k = omega (arith, bytes) in
      let z : length (flat xs) % 32 ≡ 0 = omega (arith, bytes) in
      simp (q, eq-eqb _ _ z, le-leb k most few)

  -- so the rows are those of the leaves,
  pub left-rows : c ≡ written 0 (rows_bytes (flat xs)) o
  unfolding rows_bytes
  left-rows = rw (counted, back) (written-whole all)

  is : c ≡ flat (levels xs d 0) ++ drop (0 + length (flat (levels xs d 0))) o
  unfolding pasted
  is = all.is

  long : (level j : ℕ) → length (node_at xs level j) ≡ 32
  long = tree-long xs (subst (λ (l : List (List ℕ)). (j : ℕ) → length (node_at l 0 j) ≡ 32) back
      (leaves-long k (flat xs) (omega (arith, bytes))))

  -- their last node is the root,
  pub left-root : node_in c (nodes_of d - 1) ≡ root_of xs d
  left-root = ap (λ (l : List ℕ). node_in l (nodes_of d - 1)) is ∙ root-laid xs long _ d

  -- and the path of each leaf is read out of them
  pub left-path : (i : ℕ) → i < k → path_in c d i ≡ path_of xs d i
  left-path i h = ap (λ (l : List ℕ). path_in l d i) is ∙ path-laid xs long _ d i (omega (arith, holds))

  pub left-length : (i : ℕ) → i < k → length (flat (path_of xs d i)) ≡ 32 * d
  left-length i h =
      subst (λ (l : List (List ℕ)). length (flat (path_of l d i)) ≡ 32 * d) back
      (path_bytes_lem (flat xs) k i (omega (arith, bytes)) few h)
