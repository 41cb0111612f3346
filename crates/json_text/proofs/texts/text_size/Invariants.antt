use Prim.Native.Nat.{◌+◌, ◌-◌, ◌≤◌}
use mathlib.Core.Path.{◌≡◌}
use lib.ListN.{length}
use Rattle.json_strings.specs.Text.{content_at}
use Rattle.json_text.specs.Octets.{text_of, size_of}
use Rattle.json_text.proofs.texts.text_size.Given as goal

abbrev pub invariant-loop-c : goal.invariant-loop-c
invariant-loop-c l =
    (l.n + l.at ≤ l.k) × (size_of l.n (text_of (content_at l.s l.k)) ≡ size_of 0 (text_of (content_at l.s l.at)))

abbrev pub decreases-loop-c : goal.decreases-loop-c
decreases-loop-c l = length l.s - l.k
