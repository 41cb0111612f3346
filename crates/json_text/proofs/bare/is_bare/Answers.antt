use mathlib.Core.Path.{refl}
use Rattle.json_text.specs.Facts.{bare}
use Rattle.json_text.proofs.bare.is_bare.Goals as goal

pub returns : goal.returns
unfolding bare
returns c = refl
