-- `pile_runs::Known::shortest_run` meets its contract.
-- The least clean run whose ends contradict is the least that convicts.
use Prim.Native.Nat.{◌-◌}
use Rattle.pile_runs.proofs.Passed.{Passed}
use Rattle.pile_runs.specs.Convict.{verdict_in, flag_in}
use Rattle.pile_runs.specs.Searched.{Exposes}
use Rattle.pile_runs.proofs.Known.shortest_run.Given as goal

abbrev pub invariant-loop-gap : goal.invariant-loop-gap
invariant-loop-gap l =
    Passed (Exposes (verdict_in l.self.verdicts) (flag_in l.self.linked)) l.m l.gap 0

abbrev pub decreases-loop-gap : goal.decreases-loop-gap
decreases-loop-gap l = l.m - l.gap
