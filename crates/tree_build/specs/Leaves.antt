-- The leaves that a builder is lent, as they are or as the rows of their tree (document 01, "Hash and tree", house; how
-- many there may be is as request P6 has it).
use Rattle.std.specs.Prelude.{cond, ◌&&◌, List, ℕ, ◌*◌, ◌/◌, ◌%◌, eqb, leb, length}
use Rattle.tree.specs.Tree.{nodes_in, depth_of}
use Rattle.tree_build.specs.AllRows.{nodes_of}

-- the most leaves of a batch: all definitions have the size from here
abbrev pub most : ℕ
most = 1024

-- how many leaves so many bytes are: 0 where they are not 1 to `most` whole leaves
unfoldable pub count_of : ℕ → ℕ
count_of size = cond (eqb (size % 32) 0 && leb (size / 32) most) (size / 32) 0

-- the leaves that the bytes s are, and the depth of their tree
abbrev pub leaves_in : List ℕ → List (List ℕ)
leaves_in s = nodes_in (count_of (length s)) s

abbrev pub depth_in : List ℕ → ℕ
depth_in s = depth_of (count_of (length s))

-- how many bytes the rows of a tree take whose leaves have so many bytes: 32 for each of its nodes, and 0 where these
-- are no leaves
unfoldable pub rows_length : ℕ → ℕ
rows_length size = cond (eqb (count_of size) 0) 0 (32 * nodes_of (depth_of (count_of size)))

-- of how many leaves so many bytes are the rows, where count is asked for: of count, or of 0 where that is above
-- `most` or the bytes are too few
unfoldable pub held_of : ℕ → ℕ → ℕ
held_of size count = cond (leb count most && leb (32 * nodes_of (depth_of count)) size) count 0
