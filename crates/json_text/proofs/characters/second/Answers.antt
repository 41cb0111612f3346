use mathlib.Core.Path.{sym, ◌∙◌}
use Rattle.json_text.proofs.Letters.{begins-pair, lone-other, lone-close, lone-ill}
use Rattle.json_text.proofs.characters.second.Goals as goal

pub pair-requires : goal.pair-requires
pair-requires c = (
  c.requires,
  sym c.is_low.ensures
      ∙ c.if-is_low.true,
)

pub returns-then-is_low : goal.returns-then-is_low
returns-then-is_low c =
    begins-pair _ _ _ c.unit_at.ensures
    c.requires
    c.in-Code.is (sym c.is_low.ensures ∙ c.if-is_low.true)
    c.pair.ensures

pub returns-else-is_low : goal.returns-else-is_low
returns-else-is_low c =
    lone-other _ _ _ c.unit_at.ensures
    c.requires
    c.in-Code.is (sym c.is_low.ensures ∙ c.if-is_low.false)

pub returns-in-Close : goal.returns-in-Close
returns-in-Close c =
    lone-close _ _ _ c.unit_at.ensures c.requires
    c.in-Close.is

pub returns-in-Ill : goal.returns-in-Ill
returns-in-Ill c =
    lone-ill _ _ _ c.unit_at.ensures c.requires
    c.in-Ill.is
