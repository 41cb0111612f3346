-- `tree_build::size::width` meets its contract.
use native.Mathlib.Omega.{arith}
use Rattle.tree.proofs.Width.{exponent_lt}
use borrow.Author.Rules.{rules}
use Rattle.tree_build.proofs.size.width.Goals as goal

pub overflow_shl-result : goal.overflow_shl-result
overflow_shl-result c = omega (arith, exponent_lt c.args.d 64 (omega arith))
