use mathlib.Core.Path.{refl}
use Rattle.json_strings.specs.Sizes.{is_tail}
use Rattle.json_strings.proofs.letters.is_tail.Goals as goal

pub returns : goal.returns
unfolding is_tail
returns c = refl
