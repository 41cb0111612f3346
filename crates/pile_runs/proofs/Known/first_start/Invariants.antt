-- `pile_runs::Known::first_start` meets its contract. No run of this length that starts before `start` is clean with
-- ends that contradict.
use Prim.Native.Nat.{ℕ, ◌+◌, ◌-◌, ◌≤◌, ◌<◌}
use Rattle.pile_runs.specs.Convict.{verdict_in, flag_in}
use Rattle.pile_runs.specs.Searched.{Exposes}
use Rattle.pile_runs.proofs.Known.first_start.Given as goal

abbrev pub invariant-loop-start : goal.invariant-loop-start
invariant-loop-start l =
    ((k : ℕ) → k < l.start → Exposes (verdict_in l.self.verdicts) (flag_in l.self.linked) k (k + l.gap) → ⊥) × (l.start ≤ l.starts)

abbrev pub decreases-loop-start : goal.decreases-loop-start
decreases-loop-start l = l.starts - l.start
