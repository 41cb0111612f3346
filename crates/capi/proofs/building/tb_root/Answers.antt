-- `capi::building::tb_root` meets its contract.
use mathlib.Core.Path.{ap, ◌∙◌}
use Rattle.c_packets.specs.Building.{tb_rooted}
use borrow.Author.Rules.{rules}
use Rattle.capi.proofs.building.tb_root.Goals as goal

pub returns : goal.returns
returns c = c.into.ensures ∙ ap tb_rooted c.root.ensures
