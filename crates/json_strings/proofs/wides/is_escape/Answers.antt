use mathlib.Core.Path.{refl}
use Rattle.json_strings.specs.Sizes.{is_escape}
use Rattle.json_strings.proofs.wides.is_escape.Goals as goal

pub returns : goal.returns
unfolding is_escape
returns c = refl
