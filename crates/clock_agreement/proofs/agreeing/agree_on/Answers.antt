-- `clock_agreement::agreeing::agree_on` meets its contract.
use Rattle.clock_agreement.proofs.AnswerLaws.{too_few, no-agreement, agreement}
use Rattle.clock_agreement.specs.Count.{meets, misses}
use borrow.Author.Rules.{rules}
use native.Mathlib.Omega.{arith}
use Rattle.clock_agreement.proofs.agreeing.agree_on.Goals as goal

pub returns-then-k-f : goal.returns-then-k-f
returns-then-k-f c = too_few _ _ c.count-k.ensures (omega arith) c.refuse.ensures

pub returns-then-depth-n : goal.returns-then-depth-n
returns-then-depth-n c =
    no-agreement _ _ c.count-k.ensures c.if-k-f.false c.lowest-from.ensures c.depth.ensures
    c.if-depth-n.true c.refuse-then-depth-n.ensures

pub returns : goal.returns
returns c =
    agreement _ _ c.count-k.ensures c.if-k-f.false c.lowest-from.ensures c.depth.ensures
    c.if-depth-n.false c.highest-to.ensures (c.set_of-with.ensures (meets c.lowest-from.result c.highest-to.result) (λ r b e. search rules))
    (c.set_of-without.ensures (misses c.lowest-from.result c.highest-to.result) (λ r b e. search rules))
