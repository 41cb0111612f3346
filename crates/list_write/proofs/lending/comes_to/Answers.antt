-- `list_write::lending::comes_to` meets its contract: the lengths from i on are to come to what is left.
use borrow.Author.Rules.{rules}
use Prim.Native.Nat.{◌-◌}
use mathlib.Core.Path.{◌≡◌, refl, ◌∙◌}
use lib.Dec.{eqb}
use lib.ListN.{length, drop}
use Rattle.list_write.specs.Lent.{total}
use Rattle.list_write.proofs.Lends.{total-over, total-turn, total-end}
use Rattle.list_write.proofs.lending.comes_to.Goals as goal

pub loop-length-init : goal.loop-length-init
loop-length-init c = refl

pub returns-then-left-k : goal.returns-then-left-k
returns-then-left-k c =
    total-over _ _ c.loop-length-test.true refl c.if-left-k.true ∙ c.loop-length.invariant

pub loop-length-preserved : goal.loop-length-preserved
loop-length-preserved c =
    total-turn _ _ c.loop-length-test.true refl c.if-left-k.false ∙ c.loop-length.invariant

pub returns : goal.returns
returns c = total-end _ _ _ c.loop-length-test.false ∙ c.loop-length.invariant
