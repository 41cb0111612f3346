-- `server_batch::refusing::count_wrong` meets its contract.
use mathlib.Core.Path.{◌∙◌}
use borrow.Author.Tests.{eq-eqb}
use Rattle.server_batch.proofs.Rooms.{count_none, count-some}
use Rattle.server_batch.proofs.refusing.count_wrong.Goals as goal

pub returns-then-n-eq0 : goal.returns-then-n-eq0
returns-then-n-eq0 c = eq-eqb c.args.n 0 c.if-n-eq0.true ∙ count_none _ c.if-n-eq0.true

pub returns-else-n-eq0 : goal.returns-else-n-eq0
returns-else-n-eq0 c = count-some _ c.if-n-eq0.false
