use Rattle.laws.specs.Pick.{both}
use Rattle.json_strings.specs.Text.{second_at}
use Rattle.json_strings.specs.Sizes.{is_second}
use Rattle.json_strings.proofs.letters.second_at.Goals as goal

pub returns : goal.returns
unfolding second_at is_second both
returns c = cc
