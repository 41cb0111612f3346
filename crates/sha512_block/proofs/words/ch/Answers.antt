-- `sha512_block::words::ch` meets its contract.
use Rattle.sha512_block.proofs.Bitwise.{choice-is}
use Rattle.sha512_block.proofs.words.ch.Goals as goal

pub returns : goal.returns
returns c =
    choice-is _ _ _ c.ranges.x.fits c.ranges.y.fits c.ranges.z.fits
