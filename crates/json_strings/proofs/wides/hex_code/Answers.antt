use native.Mathlib.Omega.{arith}
use mathlib.Core.Bool.{not}
use mathlib.Core.Path.{refl, ap}
use Rattle.json_strings.proofs.Sizes.{hexed-some}
use Rattle.json_strings.proofs.wides.hex_code.Goals as goal

pub returns-then-is_quad : goal.returns-then-is_quad
returns-then-is_quad c =
    hexed-some _ _ refl refl (omega arith) refl refl refl refl c.is_escape.ensures c.is_quad.ensures
    (ap not c.if-not-is_escape.false) c.if-is_quad.true c.quad.ensures
