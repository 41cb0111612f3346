use mathlib.Core.Path.{sym, ◌∙◌}
use Rattle.json_text.proofs.Joins.{text-low}
use Rattle.json_text.proofs.Letters.{begins-one}
use Rattle.json_text.proofs.characters.begun.Goals as goal

pub second-requires : goal.second-requires
second-requires c = sym c.is_high.ensures ∙ c.if-is_high.true

pub returns-then-is_low : goal.returns-then-is_low
returns-then-is_low c =
    text-low _ _ (sym c.is_high.ensures ∙ c.if-is_high.false)
    (sym c.is_low.ensures ∙ c.if-is_low.true)

pub returns-else-is_low : goal.returns-else-is_low
returns-else-is_low c =
    begins-one _ _ _ (sym c.is_high.ensures ∙ c.if-is_high.false)
    (sym c.is_low.ensures ∙ c.if-is_low.false)
