use Rattle.json_strings.specs.Sizes.{is_three}
use Rattle.json_strings.proofs.wides.is_three.Goals as goal

pub returns : goal.returns
unfolding is_three
returns c = cc
