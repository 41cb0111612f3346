-- `tree_build::ascent::ascend_over` meets its contract: the bottom level is a small one or a large one.
use mathlib.Core.Path.{refl}
use native.Mathlib.Omega.{arith}
use Rattle.laws.proofs.Written.{puts-length}
use Rattle.tree_build.proofs.Ascending.{ascending-first, ascending-rest}
use borrow.Author.Rules.{rules}
use Rattle.tree_build.proofs.ascent.ascend_over.Goals as goal

pub returns-then-width-le-FEW : goal.returns-then-width-le-FEW
returns-then-width-le-FEW c =
    let deep = c.requires.0.deep in
    ascending-rest (ascending-first refl deep (omega arith) c.bottom.ensures c.requires.1) c.ascend_few.ensures

pub returns : goal.returns
returns c =
    let deep = c.requires.0.deep in
    ascending-rest (ascending-first refl deep deep c.bottom-2.ensures c.requires.1) c.ascend_many.ensures

pub shape_of-out-then-width-le-FEW : goal.shape_of-out-then-width-le-FEW
shape_of-out-then-width-le-FEW c = puts-length (returns-then-width-le-FEW c).puts

pub shape_of-out : goal.shape_of-out
shape_of-out c = puts-length (returns c).puts
