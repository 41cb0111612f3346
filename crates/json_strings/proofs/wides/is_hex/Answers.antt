use mathlib.Core.Path.{refl}
use Rattle.json_strings.specs.Sizes.{is_hex}
use Rattle.json_strings.proofs.wides.is_hex.Goals as goal

pub returns : goal.returns
unfolding is_hex
returns c = refl
