-- `choose::still` meets its contract.
use Rattle.choices.proofs.Square.{square-fits, no-square}
use Rattle.choices.proofs.still.Goals as goal

pub overflow_mul-result : goal.overflow_mul-result
overflow_mul-result c = record { fits = square-fits _ }

pub returns : goal.returns
returns c = no-square _
