-- `sha512_block::constants::constant` meets its contract.
use Rattle.std.proofs.Common.{refl}
use Rattle.sha512_block.specs.Constants.{K}
use Rattle.sha512_block.proofs.constants.constant.Goals as goal

pub returns : goal.returns
unfolding K
returns c = refl
