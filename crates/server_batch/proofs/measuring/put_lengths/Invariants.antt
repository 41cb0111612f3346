-- `server_batch::measuring::put_lengths` meets its contract. The loop keeps: the first `i` lengths are there.
use mathlib.Core.List.{◌++◌}
use mathlib.Core.Path.{◌≡◌}
use lib.ListN.{drop}
use Rattle.laws.specs.Upto.{upto}
use Rattle.server_batch.specs.Steps.{length_in}
use Rattle.server_batch.proofs.measuring.put_lengths.Given as goal

abbrev pub invariant-loop-i : goal.invariant-loop-i
invariant-loop-i l =
    l.marks ≡ upto (length_in l.initial.marks l.lengths l.least l.size) l.i ++ drop l.i l.initial.marks
