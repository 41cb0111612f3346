-- `json_quote::spending::quoted_room` meets its contract: the octets from i on are still to be taken.
use mathlib.Core.Path.{refl, ◌∙◌}
use Rattle.json_quote.proofs.Quotes.{room-turn, room-last}
use Rattle.json_quote.proofs.spending.quoted_room.Goals as goal

pub loop-b-init : goal.loop-b-init
loop-b-init c = refl

pub loop-b-preserved : goal.loop-b-preserved
loop-b-preserved c =
    room-turn _ _ _ c.loop-b-test.true c.width.ensures c.spend-left-in-loop-b.ensures ∙ c.loop-b.invariant

pub returns : goal.returns
returns c =
    room-last _ _ _ _ c.loop-b-test.false c.spend.ensures c.loop-b.invariant c.spend-left.ensures
