-- `tree::bits::bit_length` meets its contract.
use Rattle.tree.proofs.Width.{bits_of}
use Rattle.tree.proofs.bits.bit_length.Goals as goal

pub returns : goal.returns
returns c = bits_of c.args.x c.ranges.x.fits
