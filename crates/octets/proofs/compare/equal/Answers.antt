-- `octets::compare::equal` meets its contract.
use mathlib.Core.Path.{◌∙◌}
use Rattle.laws.proofs.Same.{pointwise_same}
use Rattle.octets.proofs.compare.equal.Goals as goal

pub returns : goal.returns
returns c = c.eq.ensures ∙ pointwise_same _ _
