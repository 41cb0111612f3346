-- `tree_build::part::put_part` meets its contract, whatever is wanted.
use native.Mathlib.Omega.{arith}
use Rattle.laws.specs.Flat.{flat}
use Rattle.laws.proofs.Written.{puts_none}
use Rattle.tree_build.proofs.Writing.{sibling-put}
use borrow.Author.Rules.{rules}
use Rattle.tree_build.proofs.part.put_part.Goals as goal

pub put_node-requires : goal.put_node-requires
put_node-requires c =
    let can = rw c.in-Sibling.is at c.requires in
    omega (arith, can.enough)

pub put_row-requires : goal.put_row-requires
put_row-requires c =
    let can = rw c.in-Row.is at c.requires in
    (can.held, omega (arith, can.enough))

pub returns-in-Nothing : goal.returns-in-Nothing
unfolding flat
returns-in-Nothing c =
    rw c.in-Nothing.is (record { ends = omega arith; puts = puts_none _ _ (omega (arith, c.requires.enough)) })

pub returns-in-Sibling : goal.returns-in-Sibling
returns-in-Sibling c =
    sibling-put _ _ c.in-Sibling.is c.other.ensures c.put_node.ensures

pub returns-in-Row : goal.returns-in-Row
returns-in-Row c =
    rw c.in-Row.is (record { ends = omega arith; puts = c.put_row.ensures })
