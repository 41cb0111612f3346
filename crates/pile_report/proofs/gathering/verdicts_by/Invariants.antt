-- `pile_report::gathering::verdicts_by` meets its contract.
use Rattle.pile_report.proofs.Verdicts.{Gathering}
use Rattle.pile_report.proofs.gathering.verdicts_by.Given as goal

abbrev pub invariant-loop-k : goal.invariant-loop-k
invariant-loop-k g l = Gathering (goal.J-post g l.judge) l.n l.k l.verdicts
