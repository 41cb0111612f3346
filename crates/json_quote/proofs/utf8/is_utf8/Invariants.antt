-- `json_quote::utf8::is_utf8` meets its contract: the walk from k on says what the whole one does.
use Prim.Native.Nat.{◌-◌}
use mathlib.Core.Path.{◌≡◌}
use lib.ListN.{length}
use Rattle.json_tokens.specs.Walk.{walked}
use Rattle.json_quote.specs.Utf8.{char_step}
use Rattle.json_quote.proofs.utf8.is_utf8.Given as goal

abbrev pub invariant-loop-j : goal.invariant-loop-j
invariant-loop-j l =
    walked (length l.x) (char_step l.x) l.k ≡ walked (length l.x) (char_step l.x) 0

abbrev pub decreases-loop-j : goal.decreases-loop-j
decreases-loop-j l = length l.x - l.k
