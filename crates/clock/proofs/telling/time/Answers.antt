-- `clock::telling::time` meets its contract.
use mathlib.Core.Path.{refl}
use Rattle.clock.proofs.telling.time.Goals as goal

pub returns : goal.returns
returns c = rw (c.low_later-low.ensures, c.high_later-high.ensures) refl
