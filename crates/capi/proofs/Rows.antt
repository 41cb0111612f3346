-- How many bytes of rows are told: as many as were written.
use Rattle.refusal.specs.declared.Refusal.{Refusal}
use Rattle.std.specs.Prelude.{Err, Ok, Result}
use Prim.Native.Nat.{ℕ}
use mathlib.Core.Path.{◌≡◌, refl, ap}
use mathlib.Core.List.{List}
use lib.ListN.{length}
use Rattle.tree_build.specs.Building.{rows_answer, rows_bytes}
use Rattle.tree_build.specs.Leaves.{count_of, rows_length}
use Rattle.tree_build.proofs.BuildingLaws.{rows-there}
use Rattle.tree_build.proofs.Sizes.{rows-size}
use Rattle.c_packets.specs.Building.{tb_laid}

pub told-length : (s : List ℕ) (room : ℕ) (x : Result ℕ Refusal) → x ≡ rows_answer (count_of (length s)) room
    → tb_laid x (rows_length (length s)) ≡ tb_laid x (length (rows_bytes s))
told-length s room (Ok depth) e =
    ap (tb_laid (Ok depth)) (rows-size s (rows-there (count_of (length s)) room depth e).some)
told-length s room (Err why) e = refl
