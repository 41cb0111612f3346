use Prim.Native.Nat.{◌-◌}
use mathlib.Core.Path.{◌≡◌}
use lib.ListN.{length}
use Rattle.json_strings.specs.Text.{unit_step, string_at}
use Rattle.json_tokens.specs.Walk.{walked}
use Rattle.json_strings.proofs.strings.string.Given as goal

abbrev pub invariant-loop-n : goal.invariant-loop-n
invariant-loop-n l = walked (length l.s) (unit_step l.s) l.k ≡ string_at l.s l.at

abbrev pub decreases-loop-n : goal.decreases-loop-n
decreases-loop-n l = length l.s - l.k
