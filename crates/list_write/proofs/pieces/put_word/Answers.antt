-- `list_write::pieces::put_word` meets its contract.
use borrow.Author.Rules.{rules}
use native.Mathlib.Omega.{arith}
use mathlib.Core.Path.{refl}
use Rattle.laws.proofs.Written.{puts_one}
use Rattle.list_write.proofs.pieces.put_word.Goals as goal

pub overflow_add-result : goal.overflow_add-result
overflow_add-result c = let h = c.requires in search rules

pub returns : goal.returns
returns c = puts_one _ _ c.put.ensures refl (omega (arith, c.requires))
