use borrow.Author.Rules.{rules}
use native.Mathlib.Omega.{arith}
use Rattle.json_base64.proofs.Lettered.{lettered-none, lettered-next}
use Rattle.json_base64.proofs.letters.groups.Goals as goal

pub loop-k-init : goal.loop-k-init
loop-k-init c = (omega arith, lettered-none)

pub overflow_add-k : goal.overflow_add-k
overflow_add-k c =
    let l = (c.four.ensures c.loop-k-test.true).inside in search rules

pub overflow_add-n : goal.overflow_add-n
overflow_add-n c = let l = c.loop-k.invariant.1.inside in search rules

pub loop-k-smaller : goal.loop-k-smaller
loop-k-smaller c =
    let l = (c.four.ensures c.loop-k-test.true).inside in omega arith

pub loop-k-preserved : goal.loop-k-preserved
loop-k-preserved c =
    let i = c.loop-k.invariant in
    (omega arith, lettered-next i.0 i.1 (c.four.ensures c.loop-k-test.true))

pub returns : goal.returns
returns c = c.loop-k.invariant.1
