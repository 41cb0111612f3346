-- `sha512_block::words::big_sigma1` meets its contract.
use Rattle.std.proofs.Common.{rules}
use Rattle.sha512_block.specs.Words.{Σ1}
use Rattle.sha512_block.proofs.words.big_sigma1.Goals as goal

pub returns : goal.returns
unfolding Σ1
returns c = search rules
