use Prim.Native.Nat.{◌-◌}
use mathlib.Core.Path.{◌≡◌}
use lib.ListN.{length, drop}
use Rattle.json_strings.specs.Text.{content_at, same_list}
use Rattle.json_strings.proofs.strings.holds_rest.Given as goal

abbrev pub invariant-loop-c : goal.invariant-loop-c
invariant-loop-c l =
    same_list (content_at l.s l.k) (drop l.i l.w) ≡ same_list (content_at l.s l.at) (drop l.from l.w)

abbrev pub decreases-loop-c : goal.decreases-loop-c
decreases-loop-c l = length l.s - l.k
