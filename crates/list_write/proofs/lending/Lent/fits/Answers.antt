-- `list_write::lending::Lent::fits` meets its contract.
use mathlib.Core.Path.{ap}
use mathlib.Core.Bool.{not}
use borrow.Author.Rules.{rules}
use Rattle.list_write.specs.Lent.{fitted}
use Rattle.list_write.proofs.Lends.{keys-other, keys-right, keys-rest, keys-more, keys-whole}
use Rattle.list_write.proofs.Tests.{and-fails, and-goes}
use Rattle.list_write.proofs.lending.Lent.fits.Goals as goal

pub returns-then-self-ne0 : goal.returns-then-self-ne0
unfolding fitted
returns-then-self-ne0 c = keys-rest _ _ _ c.if-self-ne0.true

pub returns-then-self-n : goal.returns-then-self-n
unfolding fitted
returns-then-self-n c = keys-more _ _ _ c.if-self-n.true

pub returns-then-self-n-2 : goal.returns-then-self-n-2
unfolding fitted
returns-then-self-n-2 c =
    keys-whole _ _ c.if-self-ne0.false c.if-self-n.false (keys-other _ c.if-self-n-2.true)

pub returns-then-self-n-3 : goal.returns-then-self-n-3
unfolding fitted
returns-then-self-n-3 c =
    keys-whole _ _ c.if-self-ne0.false c.if-self-n.false (keys-right c.if-self-n-2.false (keys-other _ c.if-self-n-3.true))

pub returns-then-not-comes_to : goal.returns-then-not-comes_to
unfolding fitted
returns-then-not-comes_to c =
    keys-whole _ _ c.if-self-ne0.false c.if-self-n.false (keys-right c.if-self-n-2.false (keys-right c.if-self-n-3.false
    (and-fails _ c.comes_to.ensures (ap not c.if-not-comes_to.true))))

pub returns : goal.returns
unfolding fitted
returns c =
    keys-whole _ _ c.if-self-ne0.false c.if-self-n.false (keys-right c.if-self-n-2.false (keys-right c.if-self-n-3.false
    (and-goes c.comes_to.ensures (ap not c.if-not-comes_to.false) c.comes_to-2.ensures)))
