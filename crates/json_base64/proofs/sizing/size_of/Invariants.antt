use Prim.Native.Nat.{◌+◌, ◌-◌, ◌≤◌}
use mathlib.Core.Path.{◌≡◌}
use lib.ListN.{length}
use Rattle.json_strings.specs.Text.{content_at}
use Rattle.base64_strict.specs.Decode.{decode64}
use Rattle.json_base64.specs.Sized.{size_of}
use Rattle.json_base64.proofs.sizing.size_of.Given as goal

abbrev pub invariant-loop-group : goal.invariant-loop-group
invariant-loop-group l =
    (l.n + (length l.s - l.k) ≤ length l.s) × (size_of l.n (decode64 (content_at l.s l.k)) ≡ size_of 0 (decode64 (content_at l.s l.at)))

abbrev pub decreases-loop-group : goal.decreases-loop-group
decreases-loop-group l = length l.s - l.k
