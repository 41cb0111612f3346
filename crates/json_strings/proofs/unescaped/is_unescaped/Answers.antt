use mathlib.Core.Path.{refl}
use Rattle.json_strings.specs.Text.{unescaped}
use Rattle.json_strings.proofs.unescaped.is_unescaped.Goals as goal

pub returns : goal.returns
unfolding unescaped
returns c = refl
