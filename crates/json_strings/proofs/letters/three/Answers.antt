-- `json_strings::letters::three` meets its contract.
use mathlib.Core.Path.{refl}
use Rattle.json_strings.specs.Text.{three_at}
use Rattle.json_strings.proofs.letters.three.Goals as goal

pub returns : goal.returns
unfolding three_at
returns c =
    rw (
      c.more_bits.ensures.0,
      c.byte-3.ensures,
      c.more_bits-n.ensures.0,
      c.byte-2.ensures,
      c.byte.ensures,
    ) refl
