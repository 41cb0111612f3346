-- `hash::front` meets its contract.
use Rattle.hash.proofs.front.Goals as goal

pub returns : goal.returns
returns c = c.copy32.ensures
