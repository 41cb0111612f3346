-- `report_write::sizing::text_size` meets its contract: what is counted and what is left come to the whole.
use Prim.Native.Nat.{◌+◌, ◌*◌, ◌-◌}
use lib.Dec.{eqb}
use lib.ListN.{length}
use Rattle.report_write.specs.Entries.{entries_in}
use Rattle.report_write.specs.Text.{json_of}
use Rattle.report_write.proofs.Lists.{Sizing}
use Rattle.report_write.proofs.sizing.text_size.Given as goal

abbrev pub invariant-loop-k : goal.invariant-loop-k
invariant-loop-k l =
    Sizing l.p (length (json_of (entries_in l.fn.n l.p 0))) (14 + 5478 * l.fn.n) (eqb l.k 0) l.k (l.last + 1 - l.k) l.size
