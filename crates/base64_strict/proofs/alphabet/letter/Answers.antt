use native.Mathlib.Omega.{arith}
use mathlib.Core.Path.{ap}
use lib.ListN.{length}
use Rattle.base64_strict.proofs.Tables.{letter_at}
use Rattle.base64_strict.proofs.alphabet.letter.Goals as goal

pub bounds-alphabet-n : goal.bounds-alphabet-n
bounds-alphabet-n c = omega (arith, ap length c.requires.0, c.requires.1)

pub returns : goal.returns
returns c = rw c.requires.0 (letter_at _ c.requires.1)
