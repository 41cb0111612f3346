use Rattle.laws.specs.Pick.{both}
use Rattle.json_strings.specs.Text.{tail_at}
use Rattle.json_strings.specs.Sizes.{is_tail}
use Rattle.json_strings.proofs.letters.tail_at.Goals as goal

pub returns : goal.returns
unfolding tail_at is_tail both
returns c = cc
