use native.Mathlib.Omega.{arith}
use mathlib.Core.Path.{refl}
use Rattle.json_strings.proofs.Sizes.{steps-two, steps-three, steps-four}
use Rattle.json_strings.proofs.wides.byte_size.Goals as goal

pub returns-then-is_two : goal.returns-then-is_two
returns-then-is_two c =
    steps-two _ _ refl refl (omega arith) c.is_two.ensures c.if-is_two.true

pub returns-then-is_three : goal.returns-then-is_three
returns-then-is_three c =
    steps-three _ _ refl refl (omega arith) refl c.is_three.ensures c.if-is_three.true

pub returns-then-is_four : goal.returns-then-is_four
returns-then-is_four c =
    steps-four _ _ refl refl (omega arith) refl refl c.is_four.ensures c.if-is_four.true
