-- `hash::leaf` meets its contract.
use Rattle.hash.specs.Hashes.{leaf_of}
use Rattle.hash.proofs.leaf.Goals as goal

pub returns : goal.returns
unfolding leaf_of
returns c = c.tagged.ensures
