use Prim.Native.Nat.{ℕ, ◌+◌, ◌≤◌}
use mathlib.Core.Bool.{Bool}
use mathlib.Core.List.{List}
use lib.ListN.{length}
use Rattle.std.specs.Fn.{FnReturnsAt}
use Rattle.list_address.specs.Facts.{TellsAt}
use Rattle.list_address.proofs.Counts.{Kept}
use Rattle.list_address.proofs.parts.line.Given as goal

-- n parts have passed, and the others are left
abbrev pub invariant-loop-k : goal.invariant-loop-k
invariant-loop-k g l = record {
  few : l.n + length l.rest ≤ length l.s;
  kept : (p : List ℕ → Bool) → TellsAt (FnReturnsAt g.F.Fn l.passes) p → Kept p l.between l.s l.n l.rest;
}

abbrev pub decreases-loop-k : goal.decreases-loop-k
decreases-loop-k g l = length l.rest
