-- `hash::start_leaf` meets its contract.
use mathlib.Core.List.{[], ◌∷◌}
use Rattle.sha512.proofs.Whole.{then}
use Rattle.hash.proofs.start_leaf.Goals as goal

pub returns : goal.returns
returns c = then [] (0x00 ∷ []) _ _ c.start.ensures c.update.ensures
