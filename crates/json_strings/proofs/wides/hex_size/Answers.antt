use native.Mathlib.Omega.{arith}
use mathlib.Core.Path.{refl}
use Rattle.json_strings.proofs.Sizes.{steps-hex}
use Rattle.json_strings.proofs.wides.hex_size.Goals as goal

pub returns-then-is_escape-is_quad : goal.returns-then-is_escape-is_quad
returns-then-is_escape-is_quad c =
    steps-hex _ _ refl refl (omega arith) refl refl refl refl c.is_escape.ensures
    c.is_quad.ensures c.if-is_escape-is_quad.true
