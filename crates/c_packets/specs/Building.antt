-- What the builders of trees answer, as structs for C.
use Rattle.refusal.specs.declared.Refusal.{Refusal}
use Rattle.std.specs.Prelude.{ℕ, Err, Ok, Result}
use Rattle.tree_build.specs.Building.{rooted_number, rooted_depth, rooted_root, path_number, rows_number}
use Rattle.tree_build.specs.declared.Rooted.{Rooted}
use Rattle.c_packets.specs.declared.TbRooted.{TbRooted}
use Rattle.c_packets.specs.declared.TbPlaced.{TbPlaced}
use Rattle.c_packets.specs.declared.TbLaid.{TbLaid}

-- a root: zeros beside a refusal
abbrev pub tb_rooted : Result Rooted Refusal → TbRooted
tb_rooted t = record { code = rooted_number t; depth = rooted_depth t; root = rooted_root t }

-- a path: INDX of the leaf, and how many siblings were written
abbrev pub tb_placed : Result (ℕ × ℕ) Refusal → TbPlaced
tb_placed (Ok (indx, depth)) = record { code = 0; indx = indx; depth = depth }
tb_placed (Err why) = record { code = path_number (Err why); indx = 0; depth = 0 }

-- all rows: the depth of the tree, and how many bytes were written, of the length that rows have
abbrev pub tb_laid : Result ℕ Refusal → ℕ → TbLaid
tb_laid (Ok depth) length = record { code = 0; depth = depth; length = length }
tb_laid (Err why) length =
    record { code = rows_number (Err why); depth = 0; length = 0 }
