-- `json_strings::letters::four` meets its contract.
use mathlib.Core.Path.{refl}
use Rattle.json_strings.specs.Text.{four_at}
use Rattle.json_strings.proofs.letters.four.Goals as goal

pub returns : goal.returns
unfolding four_at
returns c =
    rw (
      c.more_bits.ensures.0,
      c.byte-4.ensures,
      c.more_bits-m.ensures.0,
      c.byte-3.ensures,
      c.more_bits-n.ensures.0,
      c.byte-2.ensures,
      c.byte.ensures,
    ) refl
