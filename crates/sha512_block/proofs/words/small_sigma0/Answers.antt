-- `sha512_block::words::small_sigma0` meets its contract.
use Rattle.std.proofs.Common.{rules}
use Rattle.sha512_block.specs.Words.{σ0}
use Rattle.sha512_block.proofs.words.small_sigma0.Goals as goal

pub returns : goal.returns
unfolding σ0
returns c = search rules
