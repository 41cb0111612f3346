use Rattle.json_base64.proofs.Lettered.{grouped-letters}
use Rattle.json_base64.proofs.groups.quad_together.Goals as goal

pub returns : goal.returns
returns c = grouped-letters c.requires c.three_of-x.ensures
