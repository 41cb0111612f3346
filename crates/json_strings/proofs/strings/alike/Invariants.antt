use Prim.Native.Nat.{◌+◌, ◌-◌}
use mathlib.Core.Path.{◌≡◌}
use lib.ListN.{drop}
use Rattle.json_strings.specs.Text.{content_at, same_list}
use Rattle.json_strings.proofs.strings.alike.Given as goal

abbrev pub invariant-loop-x : goal.invariant-loop-x
invariant-loop-x l =
    (same_list (content_at l.s l.k) (drop (l.k - l.at) l.w) ≡ same_list (content_at l.s l.at) l.w) × (l.k ≡ l.at + l.x-index)
