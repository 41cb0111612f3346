-- `json_strings::letters::more_bits` meets its contract.
use mathlib.Core.Path.{refl}
use native.Mathlib.Omega.{arith}
use Rattle.json_strings.specs.Text.{more_bits}
use Rattle.json_strings.proofs.letters.more_bits.Goals as goal

pub returns : goal.returns
unfolding more_bits
returns c = (refl, omega arith)
