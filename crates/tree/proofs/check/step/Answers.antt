-- `tree::check::step` meets its contract.
use mathlib.Core.Path.{sym, ◌∙◌}
use Rattle.tree.proofs.Climbs.{step-zero, step-one}
use Rattle.tree.proofs.check.step.Goals as goal

pub returns-then-bit-eq0 : goal.returns-then-bit-eq0
returns-then-bit-eq0 c = c.parent.ensures ∙ sym (step-zero _ _ _ c.if-bit-eq0.true)

pub returns-else-bit-eq0 : goal.returns-else-bit-eq0
returns-else-bit-eq0 c =
    c.parent-else-bit-eq0.ensures ∙ sym (step-one _ _ _ c.if-bit-eq0.false)
