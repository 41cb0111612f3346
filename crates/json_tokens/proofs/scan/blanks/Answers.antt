use Rattle.json_tokens.specs.Scan.{blank}
use Rattle.json_tokens.proofs.While.{past-is}
use Rattle.json_tokens.proofs.scan.blanks.Goals as goal

pub returns : goal.returns
returns c = past-is blank _ _ _ c.past_while.ensures
