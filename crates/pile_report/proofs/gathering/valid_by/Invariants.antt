-- `pile_report::gathering::valid_by` meets its contract.
use Rattle.pile_report.proofs.Verdicts.{Passing}
use Rattle.pile_report.proofs.gathering.valid_by.Given as goal

abbrev pub invariant-loop-k : goal.invariant-loop-k
invariant-loop-k g l = Passing (goal.J-post g l.judge) l.n l.k l.verdicts
