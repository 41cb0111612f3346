-- All rows of a tree in one buffer (house): level by level, the leaves first and the root last, nodes of 32 bytes with
-- nothing between them.
use Rattle.std.specs.Prelude.{List, [], ◌∷◌, ◌++◌, ℕ, zero, suc, ◌+◌, ◌-◌, ◌^◌}
use Rattle.laws.specs.Upto.{upto}
use Rattle.tree.specs.Tree.{node_in, node_at, siblings}

-- the 2^d nodes of a level, d levels below the root, then those of the level above it, and so on up to the root
unfoldable pub levels : List (List ℕ) → ℕ → ℕ → List (List ℕ)
levels xs zero level = node_at xs level 0 ∷ []
levels xs (suc d) level = upto (node_at xs level) (2 ^ suc d) ++ levels xs d (suc level)

-- how many nodes a tree of depth d has
abbrev pub nodes_of : ℕ → ℕ
nodes_of d = 2 ^ suc d - 1

-- the number of the first node of a level: how many nodes the levels below it have, of which level k has 2^(d - k)
unfoldable pub level_start : ℕ → ℕ → ℕ
level_start d zero = 0
level_start d (suc level) = level_start d level + 2 ^ (d - level)

-- node j of a level, as the bytes rows have it
abbrev pub laid_at : List ℕ → ℕ → ℕ → ℕ → List ℕ
laid_at rows d level j = node_in rows (level_start d level + j)

-- the path of the leaf at place p, read out of the bytes rows, whatever they are
abbrev pub path_in : List ℕ → ℕ → ℕ → List (List ℕ)
path_in rows d p = siblings (laid_at rows d) d 0 p
