-- `clock::keeping::keeping` meets its contract.
use mathlib.Core.Path.{refl}
use Rattle.clock.specs.State.{pushed, keeping}
use Rattle.clock.proofs.keeping.keeping.Goals as goal

pub returns : goal.returns
unfolding pushed keeping
returns c = refl
