-- A `TbServers` of a list meets its contract.
use mathlib.Core.Path.{sym, ap}
use Rattle.c_lists.specs.Listing.{tb_servers}
use borrow.Author.Rules.{rules}
use Rattle.c_lists.proofs.reading.TbServersFromResultTuple2UsizeUsizeRefusal.from.Goals as goal

pub returns-in-Ok : goal.returns-in-Ok
returns-in-Ok c = sym (ap tb_servers c.in-Ok.is)
