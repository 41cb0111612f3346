-- `hash::empty_place` meets its contract.
use mathlib.Core.Path.{ap, ◌∙◌}
use lib.ListN.{take}
use Rattle.hash.specs.Hashes.{H32, empty_place}
use Rattle.hash.proofs.empty_place.Goals as goal

pub returns : goal.returns
unfolding empty_place H32
returns c = c.front.ensures ∙ ap (take 32) c.sha512.ensures
