-- `pile::piles::pile_code` meets its contract.
use mathlib.Core.Path.{sym, ◌∙◌}
use Rattle.laws.specs.First.{when_of}
use Rattle.pile.specs.Pile.{pile_code}
use Rattle.refusal.specs.Refusal.{passes}
use Rattle.pile.proofs.piles.pile_code.Goals as goal

pub returns-then-pile_bad : goal.returns-then-pile_bad
unfolding pile_code when_of passes
returns-then-pile_bad c =
    rw (sym c.pile_bad.ensures ∙ c.if-pile_bad.true, c.refuse.ensures)

pub returns : goal.returns
unfolding pile_code when_of passes
returns c = rw (sym c.pile_bad.ensures ∙ c.if-pile_bad.false)
