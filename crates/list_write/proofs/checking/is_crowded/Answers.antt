-- `list_write::checking::is_crowded` meets its contract.
use borrow.Author.Rules.{rules}
use mathlib.Core.Path.{ap}
use lib.Dec.{ltb}
use Rattle.list_write.specs.Given.{is_crowded}
use Rattle.list_write.proofs.checking.is_crowded.Goals as goal

pub returns : goal.returns
unfolding is_crowded
returns c = ap (ltb 8) c.line_count.ensures
