use Rattle.json_text.specs.Facts.{bare}
use Rattle.json_tokens.proofs.While.{past-is}
use Rattle.json_text.proofs.bare.past_bare.Goals as goal

pub returns : goal.returns
returns c = past-is bare _ _ _ c.past_while.ensures
