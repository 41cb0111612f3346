-- `hash::srv_value` meets its contract.
use Rattle.hash.specs.Hashes.{srv_of}
use Rattle.hash.proofs.srv_value.Goals as goal

pub returns : goal.returns
unfolding srv_of
returns c = c.tagged.ensures
