-- `pile_tally::keeping::start` meets its contract. Of no window 0 is kept.
use mathlib.Core.Path.{refl}
use Rattle.pile_tally.specs.Kept.{most_of}
use Rattle.pile_tally.proofs.keeping.start.Goals as goal

pub returns : goal.returns
unfolding most_of
returns c = refl
