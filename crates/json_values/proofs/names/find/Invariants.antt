use Prim.Native.Nat.{suc, ◌-◌}
use mathlib.Core.Path.{◌≡◌}
use lib.ListN.{length}
use Rattle.json_values.specs.Members.{tally, found_of}
use Rattle.json_values.specs.Value.{member_step, value_at}
use Rattle.json_tokens.specs.Walk.{starts}
use Rattle.json_values.proofs.names.find.Given as goal

abbrev pub invariant-loop-v : goal.invariant-loop-v
invariant-loop-v l =
    tally l.s l.w l.n l.v (starts (suc (length l.s)) (member_step l.s (value_at l.s l.depth)) l.k) ≡ found_of l.s l.w l.depth l.at

abbrev pub decreases-loop-v : goal.decreases-loop-v
decreases-loop-v l = length l.s - l.k
