-- `sha512_block::words::big_sigma0` meets its contract.
use Rattle.std.proofs.Common.{rules}
use Rattle.sha512_block.specs.Words.{Σ0}
use Rattle.sha512_block.proofs.words.big_sigma0.Goals as goal

pub returns : goal.returns
unfolding Σ0
returns c = search rules
