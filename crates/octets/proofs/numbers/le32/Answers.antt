-- `octets::numbers::le32` meets its contract.
use mathlib.Core.Path.{◌∙◌}
use Rattle.octets.proofs.InBytes.{le_4}
use Rattle.octets.proofs.numbers.le32.Goals as goal

pub returns : goal.returns
returns c = c.from_le_bytes.ensures ∙ le_4 _ _ _ c.copy.ensures
