-- What the builders answer and write (document 01, "Hash and tree" and "Refusal codes"; INDX as request P2 has it). The
-- order is 20, 19.
use Rattle.refusal.specs.declared.Refusal.{Refusal}
use Rattle.std.specs.Prelude.{cond, List, ℕ, ◌*◌, eqb, leb, ltb, length, replicate, Err, Ok, Result}
use Rattle.laws.specs.Flat.{flat}
use Rattle.refusal.specs.Refusal.{refusal}
use Rattle.tree.specs.Tree.{depth_of, root_of, path_of}
use Rattle.tree_build.specs.AllRows.{levels, nodes_of, path_in}
use Rattle.tree_build.specs.Leaves.{count_of, leaves_in, depth_in}
use Rattle.tree_build.specs.declared.Rooted.{Rooted}

-- ---- The root of a batch

-- 20 where the bytes are no leaves
unfoldable pub rooted_of : List ℕ → Result Rooted Refusal
rooted_of s =
    cond (eqb (count_of (length s)) 0) (Err (refusal 20))
    (Ok (record { depth = depth_in s; root = root_of (leaves_in s) (depth_in s) }))

-- document 01's number of an answer, 0 where there is a root; and what is told of it, zeros where there is none
abbrev pub rooted_number : Result Rooted Refusal → ℕ
rooted_number (Ok r) = 0
rooted_number (Err why) = why.code

abbrev pub rooted_depth : Result Rooted Refusal → ℕ
rooted_depth (Ok r) = r.depth
rooted_depth (Err why) = 0

abbrev pub rooted_root : Result Rooted Refusal → List ℕ
rooted_root (Ok r) = r.root
rooted_root (Err why) = replicate 32 0

-- ---- The path of a leaf

-- document 01's number of an answer, 0 where the path is written
abbrev pub path_number : Result (ℕ × ℕ) Refusal → ℕ
path_number (Ok (indx, depth)) = 0
path_number (Err why) = why.code

-- the answer on the leaf at a place of n leaves, from the left, with a buffer of room bytes: 20, 19, or INDX, which is
-- its place, and the depth of the tree, which is how many siblings are written
unfoldable pub path_answer : ℕ → ℕ → ℕ → Result (ℕ × ℕ) Refusal
path_answer n place room =
    cond (leb n place) (Err (refusal 20))
    (cond (ltb room (32 * depth_of n)) (Err (refusal 19)) (Ok (place, (depth_of n))))

-- what is written: the siblings of the leaf at a place of the leaves s,
unfoldable pub path_bytes : List ℕ → ℕ → List ℕ
path_bytes s place = flat (path_of (leaves_in s) (depth_in s) place)

-- or of count leaves whose rows are lent
unfoldable pub from_bytes : List ℕ → ℕ → ℕ → List ℕ
from_bytes rows count place = flat (path_in rows (depth_of count) place)

-- ---- All rows of a batch

-- document 01's number of an answer, 0 where the rows are written
abbrev pub rows_number : Result ℕ Refusal → ℕ
rows_number (Ok depth) = 0
rows_number (Err why) = why.code

-- the answer on n leaves, with a buffer of room bytes: 20, 19, or the depth of the tree
unfoldable pub rows_answer : ℕ → ℕ → Result ℕ Refusal
rows_answer n room =
    cond (eqb n 0) (Err (refusal 20))
    (cond (ltb room (32 * nodes_of (depth_of n))) (Err (refusal 19)) (Ok (depth_of n)))

-- what is written: the rows of the tree over the leaves s
unfoldable pub rows_bytes : List ℕ → List ℕ
rows_bytes s = flat (levels (leaves_in s) (depth_in s) 0)
