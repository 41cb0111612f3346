use mathlib.Core.Path.{sym, ◌∙◌, ap}
use Rattle.json_strings.specs.Text.{step_of, unit_step}
use Rattle.json_strings.proofs.strings.unit_step.Goals as goal

pub returns-in-Code : goal.returns-in-Code
unfolding unit_step
returns-in-Code c = ap step_of (sym c.in-Code.is ∙ c.unit_of.ensures)

pub returns-in-Close : goal.returns-in-Close
unfolding unit_step
returns-in-Close c = ap step_of (sym c.in-Close.is ∙ c.unit_of.ensures)

pub returns-in-Ill : goal.returns-in-Ill
unfolding unit_step
returns-in-Ill c = ap step_of (sym c.in-Ill.is ∙ c.unit_of.ensures)
