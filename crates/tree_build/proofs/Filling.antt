-- What the loops over one level keep, and the laws of their turns: a row as it is filled with parents, and as it is
-- put. And a row of leaves, once it is padded.
use mathlib.Core.Path.{◌≡◌, refl, sym, ◌∙◌}
use mathlib.Core.List.{List, []}
use Prim.Native.Nat.{ℕ, ◌+◌, ◌*◌, ◌≤◌, ◌<◌}
use native.Mathlib.Omega.{arith}
use lib.ListN.{length, set, get_or, length-set}
use Rattle.laws.proofs.Fill.{fill-next}
use Rattle.laws.proofs.Split.{split}
use Rattle.laws.specs.Written.{Puts}
use Rattle.laws.proofs.Written.{puts-more, puts-as}
use Rattle.hash.specs.Hashes.{parent_of, empty_place}
use Rattle.tree.specs.Tree.{node_in, nodes_in, node_at}
use Rattle.tree.proofs.Nodes.{nodes-at, nodes-past, flat-more}
use Rattle.tree_build.specs.Level.{Level, bytes_of, Padded, Halved}

-- ---- A row as it is padded

-- the leaves, padded, are level 0
pub level-padded : {row was : List (List ℕ)} {count n : ℕ} (s : List ℕ)
    → ((j : ℕ) → j < count → get_or was j [] ≡ node_in s j) → Padded was count n row → Level (nodes_in count s) 0 n row
unfolding node_at
level-padded {row} {was} {count} {n} s h p j l = split count j
    (λ g. p.empty j g l ∙ sym (nodes-past count s j empty_place g))
    (λ g. p.front j g ∙ h j g ∙ sym (nodes-at count s j empty_place g))

-- ---- A row as it is filled with parents: its first i are there

pub halved-first : (row up : List (List ℕ)) → Halved row 0 (length up) up
halved-first row up = record { size = refl; parents = λ j g. absurd (omega arith) }

pub halved-next : {row up : List (List ℕ)} {i places : ℕ} (v : List ℕ) → Halved row i places up → i < length up
    → v ≡ parent_of (get_or row (2 * i) []) (get_or row (2 * i + 1) []) → Halved row (i + 1) places (set up i v)
halved-next {row} {up} {i} v t g e =
    record {
      size = simp length-set t.size;
      parents = fill-next (λ j. parent_of (get_or row (2 * j) []) (get_or row (2 * j + 1) [])) [] up i v g t.parents e;
    }

-- ---- A row as it is put from byte `at` on: its first i nodes are

pub row_next : (row : List (List ℕ)) {o out next : List ℕ} {at : ℕ} (i : ℕ)
    → Puts o at (bytes_of row i) out (at + 32 * i) → Puts out (at + 32 * i) (get_or row i []) next (at + 32 * i + 32)
    → Puts o at (bytes_of row (i + 1)) next (at + 32 * (i + 1))
row_next row {at = at} i p t =
    let e : at + 32 * i + 32 ≡ at + 32 * (i + 1) = omega arith in
    puts-as (sym (flat-more (λ j. get_or row j []) i)) (rw e at (puts-more p t))
