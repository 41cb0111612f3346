use Prim.Native.Nat.{◌-◌}
use mathlib.Core.Path.{◌≡◌}
use lib.ListN.{length}
use Rattle.json_values.specs.Members.{tally}
use Rattle.report_read.specs.Entry.{responses_name}
use Rattle.report_read.specs.Ready.{end_from, members_from}
use Rattle.report_read.proofs.reports.seek.Given as goal

abbrev pub invariant-loop-at : goal.invariant-loop-at
invariant-loop-at l =
    (end_from l.s l.k ≡ end_from l.s l.at)
    × (tally l.s responses_name 0 0 (members_from l.s l.k) ≡ tally l.s responses_name 0 0 (members_from l.s l.at))

abbrev pub decreases-loop-at : goal.decreases-loop-at
decreases-loop-at l = length l.s - l.k
