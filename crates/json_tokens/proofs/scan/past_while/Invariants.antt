use Prim.Native.Nat.{ℕ, ◌-◌, ◌≤◌, ◌<◌}
use mathlib.Core.Bool.{true}
use lib.ListN.{length, get_or}
use Rattle.json_tokens.proofs.scan.past_while.Given as goal

abbrev pub invariant-loop-k : goal.invariant-loop-k
invariant-loop-k g l =
    (l.at ≤ l.k) × ((l.at < l.k → l.k ≤ length l.s) × ((i : ℕ) → l.at ≤ i → i < l.k → goal.F-post g l.passes (get_or l.s i 0) true))

abbrev pub decreases-loop-k : goal.decreases-loop-k
decreases-loop-k g l = length l.s - l.k
