-- What private functions promise of a level that is kept as an array of nodes, and of the way up from level to level,
-- and what they ask. No operation is stated by it.
use Rattle.std.specs.Prelude.{◌≡◌, List, [], ◌∷◌, ◌++◌, ℕ, zero, suc, ◌+◌, ◌*◌, ◌-◌, ◌/◌, ◌≤◌, ◌<◌, ◌^◌, length, get_or}
use Rattle.laws.specs.Flat.{flat}
use Rattle.laws.specs.Upto.{upto}
use Rattle.laws.specs.Written.{Puts}
use Rattle.hash.specs.Hashes.{parent_of, empty_place}
use Rattle.tree.specs.Tree.{node_at, root_of, beside}
use Rattle.tree_build.specs.AllRows.{nodes_of}
use Rattle.tree_build.specs.Leaves.{most}
use Rattle.tree_build.specs.declared.Wanted.{Wanted}
use Rattle.tree_build.specs.declared.Wanted.TheVariants.{Nothing, Sibling, Row}

-- ---- A level

-- the places of a small level: the code's FEW goes with it
abbrev pub few : ℕ
few = 32

-- the first n places of row are the first n nodes of a level
abbrev pub Level : List (List ℕ) → ℕ → ℕ → List (List ℕ) → Type 0
Level xs level n row = (j : ℕ) → j < n → get_or row j [] ≡ node_at xs level j

-- the bytes of the first n places of row
abbrev pub bytes_of : List (List ℕ) → ℕ → List ℕ
bytes_of row n = flat (upto (λ j. get_or row j []) n)

-- the places of row from count on, up to n, are empty, and the others as they were
pub record Padded (was : List (List ℕ)) (count n : ℕ) (row : List (List ℕ)) : Type 0 where
  pub size : length row ≡ length was
  pub front : (j : ℕ) → j < count → get_or row j [] ≡ get_or was j []
  pub empty : (j : ℕ) → count ≤ j → j < n → get_or row j [] ≡ empty_place

-- of the places of up, the first n are the parents of the first 2n of row
pub record Halved (row : List (List ℕ)) (n places : ℕ) (up : List (List ℕ)) : Type 0 where
  pub size : length up ≡ places
  pub parents : (j : ℕ) → j < n → get_or up j [] ≡ parent_of (get_or row (2 * j) []) (get_or row (2 * j + 1) [])

-- ---- What is wanted of each level, on the way up; the sibling is that of node j

-- of a level of n nodes
abbrev pub part : Wanted → (ℕ → List ℕ) → ℕ → ℕ → List (List ℕ)
part Nothing node n j = []
part Sibling node n j = node (beside j) ∷ []
part Row node n j = upto node n

abbrev pub part_size : Wanted → ℕ → ℕ
part_size Nothing n = 0
part_size Sibling n = 1
part_size Row n = n

-- of a level and those above it, but for the root, which is d levels above it; `node` says what each node is
unfoldable pub parts : Wanted → (ℕ → ℕ → List ℕ) → ℕ → ℕ → ℕ → List (List ℕ)
parts wanted node zero level j = []
parts wanted node (suc d) level j = part wanted (node level) (2 ^ suc d) j ++ parts wanted node d (suc level) (j / 2)

abbrev pub parts_size : Wanted → ℕ → ℕ
parts_size Nothing d = 0
parts_size Sibling d = d
parts_size Row d = nodes_of d - 1

-- what is wanted of a level can be written: n of the places are its nodes, they are pairs, j is one of them, and there
-- is room
pub record CanPut (wanted : Wanted) (n j places at room : ℕ) : Type 0 where
  pub pairs : n ≡ 2 * (n / 2)
  pub held : n ≤ places
  pub few : n ≤ most
  pub inside : j < n
  pub enough : at + 32 * part_size wanted n ≤ room

-- it is written: the buffer o, once it has it from index at on, is out, and it ends before index e; `node` says what
-- each node is
pub record PutPart (wanted : Wanted) (node : ℕ → List ℕ) (n j : ℕ) (o : List ℕ) (at : ℕ) (out : List ℕ) (e : ℕ)
    : Type 0 where
  pub ends : e ≡ at + 32 * part_size wanted n
  pub puts : Puts o at (flat (part wanted node n j)) out e

-- what is wanted of a tree of depth d can be written: it has that place, and there is room
pub record Fits (wanted : Wanted) (d place at room : ℕ) : Type 0 where
  pub inside : place < 2 ^ d
  pub enough : at + 32 * parts_size wanted d ≤ room

-- ---- A tree as it is built

-- a tree can be built: the bytes s have count leaves, and one of depth d has place for them and is not too large
pub record CanBuild (s : List ℕ) (count d : ℕ) : Type 0 where
  pub few : count ≤ 2 ^ d
  pub whole : 32 * count ≤ length s
  pub deep : 2 ^ d ≤ most

-- the rows of a tree of depth d can be put over its leaves: it has place for count of them and is not too large, and
-- its nodes have room
pub record CanFill (s : List ℕ) (count d : ℕ) : Type 0 where
  pub few : count ≤ 2 ^ d
  pub deep : 2 ^ d ≤ most
  pub held : 32 * nodes_of d ≤ length s

-- root is that of the tree of depth d over the leaves xs, and the buffer o, once it has what is wanted of the tree from
-- index at on, is out
pub record Ascends (xs : List (List ℕ)) (d : ℕ) (wanted : Wanted) (place : ℕ) (o : List ℕ) (at : ℕ) (out root : List ℕ)
    : Type 0 where
  pub top : root ≡ root_of xs d
  pub puts : Puts o at (flat (parts wanted (node_at xs) d 0 place)) out (at + 32 * parts_size wanted d)

-- a path can be read: the rows have all nodes of a tree of depth d, it has that place, and d siblings have room
pub record CanRead (rows : List ℕ) (d place room : ℕ) : Type 0 where
  pub deep : 2 ^ d ≤ most
  pub held : 32 * nodes_of d ≤ length rows
  pub inside : place < 2 ^ d
  pub enough : 32 * d ≤ room
