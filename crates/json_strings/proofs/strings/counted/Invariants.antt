use Prim.Native.Nat.{◌+◌, ◌-◌, ◌≤◌}
use mathlib.Core.Path.{◌≡◌}
use lib.ListN.{length}
use Rattle.json_strings.specs.Text.{unit_step, content_at}
use Rattle.json_tokens.specs.Walk.{walked}
use Rattle.json_strings.proofs.strings.counted.Given as goal

abbrev pub invariant-loop-j : goal.invariant-loop-j
invariant-loop-j l =
    (walked (length l.s) (unit_step l.s) l.k ≡ walked (length l.s) (unit_step l.s) l.at)
    × (l.letters + length (content_at l.s l.k) ≡ l.n + length (content_at l.s l.at))
    × (l.letters ≤ l.k)

abbrev pub decreases-loop-j : goal.decreases-loop-j
decreases-loop-j l = length l.s - l.k
