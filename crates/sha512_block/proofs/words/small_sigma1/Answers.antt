-- `sha512_block::words::small_sigma1` meets its contract.
use Rattle.std.proofs.Common.{rules}
use Rattle.sha512_block.specs.Words.{σ1}
use Rattle.sha512_block.proofs.words.small_sigma1.Goals as goal

pub returns : goal.returns
unfolding σ1
returns c = search rules
