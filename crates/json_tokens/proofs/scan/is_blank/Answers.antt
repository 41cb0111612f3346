use mathlib.Core.Bool.{◌||◌}
use mathlib.Core.Path.{◌∙◌}
use lib.Dec.{eqb}
use Rattle.std.proofs.Math.Bool.{or_assoc}
use Rattle.laws.specs.Pick.{either}
use Rattle.json_tokens.proofs.scan.is_blank.Goals as goal

pub returns : goal.returns
unfolding either
returns c =
    let b = c.args.b in
    let cr = eqb b 13 in
    or_assoc (eqb b 32 || eqb b 9) (eqb b 10) cr ∙ or_assoc (eqb b 32) (eqb b 9) (eqb b 10 || cr)
