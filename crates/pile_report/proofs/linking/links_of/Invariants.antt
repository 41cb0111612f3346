-- `pile_report::linking::links_of` meets its contract. Each place passed holds its link; the first record has none.
use mathlib.Core.Path.{◌≡◌}
use Prim.Native.Nat.{ℕ, ◌-◌, ◌≤◌, ◌<◌}
use lib.ListN.{length}
use Rattle.pile.specs.Links.{linked_of}
use Rattle.pile_runs.specs.Convict.{verdict_in, flag_in}
use Rattle.pile_report.specs.Promises.{between}
use Rattle.pile_report.proofs.linking.links_of.Given as goal

abbrev pub invariant-loop-k : goal.invariant-loop-k
invariant-loop-k l =
    (1 ≤ l.k) × (l.k ≤ 16) × (length l.links ≡ 16)
    × ((i : ℕ) → i < l.k → flag_in l.links i ≡ between (verdict_in l.verdicts) (linked_of l.pile) i)

abbrev pub decreases-loop-k : goal.decreases-loop-k
decreases-loop-k l = 16 - l.k
