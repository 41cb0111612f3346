-- `sha512::pieces::finish` meets its contract.
use Rattle.std.proofs.Common.{ap, ◌∙◌}
use Rattle.sha512.specs.Computation.{digest}
use Rattle.sha512.specs.State.{state_digest}
use Rattle.sha512.proofs.pieces.finish.Goals as goal

pub returns : goal.returns
unfolding state_digest
returns c = c.digest.ensures ∙ ap digest c.last.ensures
