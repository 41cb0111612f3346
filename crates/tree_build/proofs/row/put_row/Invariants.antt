-- `tree_build::row::put_row` meets its contract. The loop keeps: the first `i` nodes are put.
use mathlib.Core.Path.{◌≡◌}
use Prim.Native.Nat.{◌+◌, ◌*◌, ◌≤◌, ◌-◌}
use native.Mathlib.Nat.{add-zero}
use native.Mathlib.Omega.{arith}
use Rattle.laws.specs.Flat.{flat}
use Rattle.laws.specs.Upto.{upto}
use Rattle.laws.specs.Written.{Puts}
use Rattle.laws.proofs.Written.{puts_none, puts-length}
use Rattle.tree_build.specs.Level.{bytes_of}
use Rattle.tree_build.proofs.Filling.{row_next}
use borrow.Author.Rules.{rules}
use Rattle.tree_build.proofs.row.put_row.Given as goal

abbrev pub invariant-loop-i : goal.invariant-loop-i
invariant-loop-i l =
    Puts l.initial.out l.at (bytes_of l.row l.i) l.out (l.at + 32 * l.i)
