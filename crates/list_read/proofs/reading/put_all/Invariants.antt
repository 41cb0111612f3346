use Rattle.list_read.proofs.Records.{Laying}
use Rattle.list_read.proofs.reading.put_all.Given as goal

abbrev pub invariant-loop-i : goal.invariant-loop-i
invariant-loop-i l = Laying l.s l.places l.initial.out l.i l.out
