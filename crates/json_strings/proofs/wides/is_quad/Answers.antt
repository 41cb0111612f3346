use Rattle.json_strings.specs.Sizes.{is_quad}
use Rattle.json_strings.proofs.wides.is_quad.Goals as goal

pub returns : goal.returns
unfolding is_quad
returns c = cc
