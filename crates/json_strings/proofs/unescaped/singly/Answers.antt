use Rattle.json_strings.specs.Text.{unescaped}
use Rattle.json_tokens.proofs.While.{past-is}
use Rattle.json_strings.proofs.unescaped.singly.Goals as goal

pub returns : goal.returns
returns c = past-is unescaped _ _ _ c.past_while.ensures
