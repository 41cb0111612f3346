-- `list_write::decimal::digits_of` meets its contract: the digits of what is left are still to be put.
use borrow.Author.Rules.{rules}
use native.Mathlib.Omega.{arith}
use mathlib.Core.Path.{refl}
use Rattle.list_write.proofs.Spelling.{Spelling, spelling-first, spelling-last, spelling-more, spelling-turn}
use Rattle.list_write.proofs.decimal.digits_of.Goals as goal

pub loop-rest-init : goal.loop-rest-init
loop-rest-init c = spelling-first _ _ (omega arith) refl

pub bounds-text-from : goal.bounds-text-from
bounds-text-from c = omega (arith, c.loop-rest.invariant.inside)

pub returns-then-rest-lt10 : goal.returns-then-rest-lt10
returns-then-rest-lt10 c = spelling-last c.loop-rest.invariant refl c.if-rest-lt10.true

pub overflow_sub-from : goal.overflow_sub-from
overflow_sub-from c =
    let h = spelling-more c.loop-rest.invariant refl c.if-rest-lt10.false in search rules

pub loop-rest-smaller : goal.loop-rest-smaller
loop-rest-smaller c =
    let h = spelling-more c.loop-rest.invariant refl c.if-rest-lt10.false in omega arith

pub loop-rest-preserved : goal.loop-rest-preserved
loop-rest-preserved c =
    spelling-turn c.loop-rest.invariant refl c.if-rest-lt10.false
