-- `report_write::listing::put_list` meets its contract: what is left to write is the list from record k on.
use mathlib.Core.Bool.{true}
use Prim.Native.Nat.{◌+◌, ◌-◌}
use lib.Dec.{eqb}
use Rattle.report_write.specs.Pieces.{list_text}
use Rattle.report_write.proofs.Lists.{Putting}
use Rattle.report_write.proofs.listing.put_list.Given as goal

abbrev pub invariant-loop-k : goal.invariant-loop-k
invariant-loop-k l =
    Putting l.p (list_text l.p true l.fn.n 0) l.initial.out (eqb l.k 0) l.k (l.last + 1 - l.k) l.at l.out
