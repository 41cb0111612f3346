-- `sha512_block::scheduling::next_word` meets its contract.
use Rattle.std.proofs.Common.{refl}
use Rattle.sha512_block.proofs.scheduling.next_word.Goals as goal

pub returns : goal.returns
returns c = rw (c.small_sigma0.ensures, c.small_sigma1.ensures) refl
