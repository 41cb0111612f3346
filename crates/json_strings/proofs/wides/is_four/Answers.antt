use Rattle.json_strings.specs.Sizes.{is_four}
use Rattle.json_strings.proofs.wides.is_four.Goals as goal

pub returns : goal.returns
unfolding is_four
returns c = cc
