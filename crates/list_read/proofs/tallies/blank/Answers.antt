use mathlib.Core.Path.{refl}
use Rattle.list_read.specs.Facts.{blank_tally}
use Rattle.list_read.proofs.tallies.blank.Goals as goal

pub returns : goal.returns
unfolding blank_tally
returns c = refl
