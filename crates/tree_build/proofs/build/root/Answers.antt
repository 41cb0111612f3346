-- `tree_build::build::root` meets its contract. Each way out has its law.
use Rattle.tree_build.proofs.BuildingLaws.{rooted_none, rooted-some}
use borrow.Author.Rules.{rules}
use Rattle.tree_build.proofs.build.root.Goals as goal

pub returns : goal.returns
returns c =
    let n = c.count_of-count.ensures.0 in
    rooted-some _ n c.depth-d.ensures.0 c.if-count-eq0.false c.ascend-root.ensures.top

pub returns-then-count-eq0 : goal.returns-then-count-eq0
returns-then-count-eq0 c = search (rooted_none, rules)
