-- `sha512::initial::initial_hash` meets its contract.
use Rattle.std.proofs.Common.{refl}
use Rattle.sha512.specs.InitialHash.{H0}
use Rattle.sha512.proofs.initial.initial_hash.Goals as goal

pub returns : goal.returns
unfolding H0
returns c = refl
