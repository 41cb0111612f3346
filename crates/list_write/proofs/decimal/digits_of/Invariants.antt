-- `list_write::decimal::digits_of` meets its contract: the digits of what is left are still to be put.
use borrow.Author.Rules.{rules}
use native.Mathlib.Omega.{arith}
use mathlib.Core.Path.{refl}
use Rattle.list_write.proofs.Spelling.{Spelling, spelling-first, spelling-last, spelling-more, spelling-turn}
use Rattle.list_write.proofs.decimal.digits_of.Given as goal

abbrev pub invariant-loop-rest : goal.invariant-loop-rest
invariant-loop-rest l = Spelling l.x l.text l.from l.rest

abbrev pub decreases-loop-rest : goal.decreases-loop-rest
decreases-loop-rest l = l.from
