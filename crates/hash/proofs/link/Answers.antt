-- `hash::link` meets its contract.
use mathlib.Core.Path.{ap, ◌∙◌}
use lib.ListN.{take}
use Rattle.hash.specs.Hashes.{H32, link_of}
use Rattle.hash.proofs.link.Goals as goal

pub returns : goal.returns
unfolding link_of H32
returns c = c.front.ensures ∙ ap (take 32) c.sha512_pair.ensures
