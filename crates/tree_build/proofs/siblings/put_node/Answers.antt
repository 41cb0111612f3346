-- `tree_build::siblings::put_node` meets its contract.
use Rattle.laws.proofs.Written.{puts_one}
use borrow.Author.Rules.{rules}
use Rattle.tree_build.proofs.siblings.put_node.Goals as goal

pub returns : goal.returns
returns c = puts_one _ _ c.put.ensures (search rules) (search rules)
