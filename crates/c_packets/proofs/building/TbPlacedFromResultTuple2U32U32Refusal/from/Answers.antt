-- A `TbPlaced` of a path meets its contract.
use mathlib.Core.Path.{sym, ap}
use Rattle.c_packets.specs.Building.{tb_placed}
use borrow.Author.Rules.{rules}
use Rattle.c_packets.proofs.building.TbPlacedFromResultTuple2U32U32Refusal.from.Goals as goal

pub returns-in-Ok : goal.returns-in-Ok
returns-in-Ok c = sym (ap tb_placed c.in-Ok.is)
