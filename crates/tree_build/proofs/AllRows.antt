-- What stands where in the rows of a tree, and so what is read out of them.
use mathlib.Core.Path.{◌≡◌, refl, ap, ap₂, ◌∙◌}
use mathlib.Core.List.{List, [], ◌∷◌, ◌++◌}
use Prim.Native.Nat.{ℕ, zero, suc, ◌+◌, ◌*◌, ◌-◌, ◌/◌, ◌^◌, ◌≤◌, ◌<◌}
use native.Mathlib.Nat.{zero-add}
use native.Mathlib.Omega.{arith}
use lib.ListN.{length, take, drop, get_or, length-append, length-drop, get_or-append}
use lib.Pow.{pow_pos}
use lib.Seq.{get_or-append-add, drop-append-le, take-append-le}
use Rattle.laws.specs.Flat.{flat}
use Rattle.laws.specs.Pasted.{pasted}
use Rattle.laws.specs.Upto.{upto}
use Rattle.laws.specs.Written.{Puts}
use Rattle.laws.proofs.Pieces.{pasted-behind}
use Rattle.laws.proofs.Upto.{upto-length, upto-at, upto-same}
use Rattle.laws.proofs.Written.{puts-as}
use Rattle.tree.specs.Tree.{node_in, nodes_in, node_at, root_of, beside, siblings, path_of}
use Rattle.tree_build.specs.AllRows.{levels, nodes_of, level_start, laid_at, path_in}
use Rattle.tree.proofs.Nodes.{Whole, whole_append, whole-upto, flat-length, flat-at}

-- where a level with l levels above it starts: it and those above have 2^(l + 1) - 1 nodes
pub start_is : (d m l : ℕ) → m + l ≡ d → level_start d m + 2 ^ suc l ≡ 2 ^ suc d
unfolding level_start
start_is d zero l e =
    let q : l ≡ d = omega arith in
    rw q (omega arith)
start_is d (suc m) l e =
    let q : d - m ≡ suc l = omega arith in
    rw q (omega (arith, start_is d m (suc l) (omega arith)))

-- node j of the level m above level k
levels-at : (xs : List (List ℕ)) (d k m j : ℕ) → m ≤ d → j < 2 ^ (d - m)
    → get_or (levels xs d k) (level_start d m + j) [] ≡ node_at xs (k + m) j
unfolding levels
levels-at xs zero k m j h g =
    let z : m ≡ 0 = omega arith in
    let y : level_start 0 m + j ≡ 0 = omega (arith, ap (λ (n : ℕ). 2 ^ (0 - n)) z, start_is 0 m 0 (omega arith)) in
    let x : j ≡ 0 = omega arith in
    let e : k + m ≡ k = omega arith in
    rw (y, e, x)
levels-at xs (suc d) k zero j h g =
    let n = 2 ^ suc d in
    let b : suc d - 0 ≡ suc d = omega arith in
    let i : level_start (suc d) 0 + j ≡ j = omega (arith, start_is (suc d) 0 (suc d) (omega arith)) in
    let e : k + 0 ≡ k = omega arith in
    let l : j < n = rw b at g in
    rw (i, e)
    (get_or-append (upto (node_at xs k) n) (levels xs d (suc k)) [] j (rw upto-length l)
    ∙ upto-at (node_at xs k) n j [] l)
levels-at xs (suc d) k (suc m) j h g =
    let n = 2 ^ suc d in
    let row = upto (node_at xs k) n in
    let b : suc d - suc m ≡ d - m = omega arith in
    let u = start_is (suc d) (suc m) (d - m) (omega arith) in
    let v = start_is d m (d - m) (omega arith) in
    let i : level_start (suc d) (suc m) + j ≡ length row + (level_start d m + j) = rw upto-length (omega (arith, u, v)) in
    let e : suc k + m ≡ k + suc m = omega arith in
    ap (λ (x : ℕ). get_or (row ++ levels xs d (suc k)) x []) i
    ∙ get_or-append-add row (levels xs d (suc k)) (level_start d m + j) []
    ∙ levels-at xs d (suc k) m j (omega arith) (rw b at g)
    ∙ ap (λ (x : ℕ). node_at xs x j) e

levels-length : (xs : List (List ℕ)) (d k : ℕ) → length (levels xs d k) ≡ nodes_of d
unfolding levels
levels-length xs zero k = refl
levels-length xs (suc d) k =
    length-append (upto (node_at xs k) (2 ^ suc d)) (levels xs d (suc k))
    ∙ omega (arith, upto-length (node_at xs k) (2 ^ suc d), levels-length xs d (suc k), pow_pos d)

module _ (xs : List (List ℕ)) (long : (k j : ℕ) → length (node_at xs k j) ≡ 32) where
  levels-whole : (d k : ℕ) → Whole (levels xs d k)
  unfolding levels
  levels-whole zero k = (long k 0, tt)
  levels-whole (suc d) k =
      let row = whole-upto (node_at xs k) (2 ^ suc d) (λ j g. long k j) in
      whole_append (upto (node_at xs k) (2 ^ suc d)) (levels xs d (suc k)) row (levels-whole d (suc k))

  pub rows-length : (d : ℕ) → length (flat (levels xs d 0)) ≡ 32 * nodes_of d
  rows-length d = flat-length (levels xs d 0) (levels-whole d 0) ∙ ap (λ (n : ℕ). 32 * n) (levels-length xs d 0)

  -- the nodes are where `laid_at` looks for them, whatever comes behind the rows
  laid-at : (more : List ℕ) (d k j : ℕ) → k ≤ d → j < 2 ^ (d - k)
      → laid_at (flat (levels xs d 0) ++ more) d k j ≡ node_at xs k j
  laid-at more d k j h g =
      let u = start_is d k (d - k) (omega arith) in
      let i : level_start d k + j < length (levels xs d 0) = rw levels-length (omega (arith, u, pow_pos (d - k))) in
      flat-at (levels xs d 0) more (levels-whole d 0) (level_start d k + j) i
      ∙ (rw zero-add at (levels-at xs d 0 k j h g))

  -- so the path of a leaf is read out,
  siblings-laid : (more : List ℕ) (d l k j : ℕ) → k + l ≡ d → j < 2 ^ l
      → siblings (laid_at (flat (levels xs d 0) ++ more) d) l k j ≡ siblings (node_at xs) l k j
  unfolding siblings
  siblings-laid more d zero k j e h = refl
  siblings-laid more d (suc l) k j e h =
      let b : d - k ≡ suc l = omega arith in
      let i : beside j < 2 ^ (d - k) = rw b (omega arith) in
      ap₂ (λ (x : List ℕ) (ss : List (List ℕ)). x ∷ ss)
      (laid-at more d k (beside j) (omega arith) i)
      (siblings-laid more d l (suc k) (j / 2) (omega arith) (omega arith))

  pub path-laid : (more : List ℕ) (d p : ℕ) → p < 2 ^ d → path_in (flat (levels xs d 0) ++ more) d p ≡ path_of xs d p
  path-laid more d p h = siblings-laid more d d 0 p (omega arith) h

  -- and the root is the last node
  pub root-laid : (more : List ℕ) (d : ℕ) → node_in (flat (levels xs d 0) ++ more) (nodes_of d - 1) ≡ root_of xs d
  root-laid more d =
      let b : d - d ≡ 0 = omega arith in
      let i : nodes_of d - 1 ≡ level_start d d + 0 = omega (arith, start_is d d 0 (omega arith)) in
      ap (node_in (flat (levels xs d 0) ++ more)) i ∙ laid-at more d d 0 (omega arith) (rw b (omega arith))

-- ---- Nodes that were put at the front of o, and the rows over them

nodes-front : (n : ℕ) (p more : List ℕ) → 32 * n ≤ length p → nodes_in n (p ++ more) ≡ nodes_in n p
unfolding nodes_in node_in
nodes-front n p more h =
    upto-same (node_in (p ++ more)) (node_in p) n
    (λ k g.
    ap (take 32) (drop-append-le (32 * k) p more (omega arith))
    ∙ take-append-le 32 (drop (32 * k) p) more (simp length-drop (omega arith)))

pub rows-over : {o b c : List ℕ} {e : ℕ} (p : List ℕ) (n d : ℕ) → b ≡ pasted o 0 p → length p ≡ 32 * n → 32 * n ≤ e
    → e ≤ length o → Puts b 0 (flat (levels (nodes_in n b) d 0)) c e → Puts o 0 (flat (levels (nodes_in n p) d 0)) c e
unfolding pasted
rows-over {o} {b} {c} {e} p n d is l h fits t =
    let same : nodes_in n b ≡ nodes_in n p = ap (nodes_in n) is ∙ nodes-front n p _ (omega arith) in
    let r = flat (levels (nodes_in n p) d 0) in
    let u : Puts b 0 r c e = puts-as (ap (λ (xs : List (List ℕ)). flat (levels xs d 0)) same) t in
    let long = u.ends in
    record {
      is = u.is ∙ ap (λ (x : List ℕ). r ++ x) (ap (drop (0 + length r)) is ∙ pasted-behind o p 0 (omega arith)
          (0 + length r) (omega arith));
      ends = long;
      fits = fits;
    }
