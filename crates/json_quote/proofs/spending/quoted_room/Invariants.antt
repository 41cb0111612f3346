-- `json_quote::spending::quoted_room` meets its contract: the octets from i on are still to be taken.
use mathlib.Core.Path.{◌≡◌}
use lib.ListN.{length, drop}
use Rattle.json_quote.specs.Quoted.{quoted_rest}
use Rattle.json_quote.specs.Room.{spent}
use Rattle.json_quote.proofs.spending.quoted_room.Given as goal

abbrev pub invariant-loop-b : goal.invariant-loop-b
invariant-loop-b l =
    spent l.left (length (quoted_rest (drop l.b-index l.x))) ≡ spent l.initial.left (length (quoted_rest l.x))
