-- `walk::taking::moved_on` meets its contract.
use Rattle.walk.specs.Taking.{moved_on}
use Rattle.walk.proofs.taking.moved_on.Goals as goal

pub returns : goal.returns
unfolding moved_on
returns c = rw c.link-nonce.ensures
