use Rattle.json_strings.specs.Sizes.{is_two}
use Rattle.json_strings.proofs.wides.is_two.Goals as goal

pub returns : goal.returns
unfolding is_two
returns c = cc
