-- `pile_tally::passing::any_contradiction` meets its contract. No two of the records before this one contradict, and
-- the state is what is kept of them.
use Prim.Native.Nat.{◌≤◌}
use lib.ListN.{length}
use Rattle.pile_runs.specs.Convict.{verdict_in}
use Rattle.pile_tally.proofs.Turns.{Quiet}
use Rattle.pile_tally.proofs.passing.any_contradiction.Given as goal

abbrev pub invariant-loop-verdict : goal.invariant-loop-verdict
invariant-loop-verdict l =
    (l.verdict-index ≤ length l.verdicts) × Quiet (verdict_in l.verdicts) l.verdict-index l.tally
