-- `sha512_block::rounding::turn` meets its contract.
use Rattle.std.proofs.Common.{ap₂, rules}
use Rattle.sha512_block.specs.Rolling.{turning}
use Rattle.sha512_block.proofs.rounding.turn.Goals as goal

pub returns : goal.returns
returns c = record { w_after = ap₂ turning (rw c.constant.ensures at c.round.ensures) c.next_word.ensures; t_bound = search rules }
