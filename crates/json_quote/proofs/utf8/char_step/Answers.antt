-- `json_quote::utf8::char_step` meets its contract.
use mathlib.Core.Path.{refl, sym, ◌∙◌, ap}
use Rattle.json_strings.specs.Text.{step_of, unit_step}
use Rattle.json_quote.specs.Utf8.{char_step}
use Rattle.laws.proofs.Picks.{hit-upto, miss-upto, hit-below, miss-below}
use native.Mathlib.Omega.{arith}
use Rattle.json_quote.proofs.utf8.char_step.Goals as goal

pub returns-then-x-at : goal.returns-then-x-at
unfolding char_step
returns-then-x-at c = hit-upto _ c.if-x-at.true refl

pub returns-then-x-at-lt128 : goal.returns-then-x-at-lt128
unfolding char_step
returns-then-x-at-lt128 c =
    miss-upto _ c.if-x-at.false (hit-below _ (omega arith) refl)

pub returns-in-Code : goal.returns-in-Code
unfolding char_step unit_step
returns-in-Code c =
    miss-upto _ c.if-x-at.false (miss-below _ (omega arith)
    (ap step_of (sym c.in-Code.is ∙ c.unit_of.ensures)))

pub returns-in-Close : goal.returns-in-Close
unfolding char_step unit_step
returns-in-Close c =
    miss-upto _ c.if-x-at.false (miss-below _ (omega arith)
    (ap step_of (sym c.in-Close.is ∙ c.unit_of.ensures)))

pub returns-in-Ill : goal.returns-in-Ill
unfolding char_step unit_step
returns-in-Ill c =
    miss-upto _ c.if-x-at.false (miss-below _ (omega arith)
    (ap step_of (sym c.in-Ill.is ∙ c.unit_of.ensures)))
