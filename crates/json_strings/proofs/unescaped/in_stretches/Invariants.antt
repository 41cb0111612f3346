use Prim.Native.Nat.{◌-◌}
use mathlib.Core.Path.{◌≡◌}
use lib.ListN.{length}
use Rattle.json_tokens.specs.Scan.{past_while}
use Rattle.json_strings.specs.Text.{unescaped}
use Rattle.json_strings.proofs.unescaped.in_stretches.Given as goal

abbrev pub invariant-loop-k : goal.invariant-loop-k
invariant-loop-k l = past_while unescaped l.s l.k ≡ past_while unescaped l.s l.at

abbrev pub decreases-loop-k : goal.decreases-loop-k
decreases-loop-k l = length l.s - l.k
