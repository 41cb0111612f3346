-- `sha512_block::words::maj` meets its contract.
use Rattle.sha512_block.proofs.Bitwise.{majority-is}
use Rattle.sha512_block.proofs.words.maj.Goals as goal

pub returns : goal.returns
returns c =
    majority-is 64 _ _ _ c.ranges.x.fits c.ranges.y.fits c.ranges.z.fits
