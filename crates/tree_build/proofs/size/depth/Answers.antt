-- `tree_build::size::depth` meets its contract.
use native.Mathlib.Omega.{arith}
use Rattle.tree_build.proofs.Depths.{depth-of, deep-most}
use borrow.Author.Rules.{rules}
use Rattle.tree_build.proofs.size.depth.Goals as goal

pub returns : goal.returns
returns c =
    let b = c.bit_length.ensures in
    let n = c.args.count in
    (depth-of b (omega arith) (omega arith), deep-most {n = n} b (omega arith) (omega arith), omega (arith, b.holds))
