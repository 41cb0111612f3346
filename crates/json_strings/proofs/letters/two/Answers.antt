-- `json_strings::letters::two` meets its contract.
use mathlib.Core.Path.{refl}
use Rattle.json_strings.specs.Text.{two_at}
use Rattle.json_strings.proofs.letters.two.Goals as goal

pub returns : goal.returns
unfolding two_at
returns c =
    rw (
      c.more_bits.ensures.0,
      c.byte-2.ensures,
      c.byte.ensures,
    ) refl
