use Rattle.report_read.proofs.Piles.{Lays}
use Rattle.report_read.proofs.reading.put_all.Given as goal

abbrev pub invariant-loop-i : goal.invariant-loop-i
invariant-loop-i l = Lays l.s l.n l.spots l.initial.out l.i l.out
