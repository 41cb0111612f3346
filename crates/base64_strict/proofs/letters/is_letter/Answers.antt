use Rattle.base64_strict.proofs.Tables.{ranged-letter}
use native.Mathlib.Omega.{arith}
use Rattle.base64_strict.proofs.letters.is_letter.Goals as goal

pub returns : goal.returns
returns c = ranged-letter _ (omega arith)
