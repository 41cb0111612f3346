use Prim.Native.Nat.{◌-◌}
use lib.ListN.{length}
use Rattle.json_strings.specs.Text.{content_at}
use Rattle.json_text.specs.Octets.{text_of, plain}
use Rattle.json_text.proofs.Fills.{Filling}
use Rattle.json_text.proofs.texts.fill.Given as goal

abbrev pub invariant-loop-c : goal.invariant-loop-c
invariant-loop-c l =
    Filling (plain (text_of (content_at l.s l.at))) l.s l.k l.initial.out l.n l.out

abbrev pub decreases-loop-c : goal.decreases-loop-c
decreases-loop-c l = length l.s - l.k
