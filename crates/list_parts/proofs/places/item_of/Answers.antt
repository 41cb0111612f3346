use borrow.Author.Rules.{rules}
use mathlib.Core.Path.{◌≡◌, sym, ◌∙◌, ap}
use Rattle.report_read.specs.Entry.{elements_of}
use Rattle.list_read.specs.Facts.{left}
use Rattle.list_read.proofs.Items.{left-done, left_here, left-on}
use Rattle.list_parts.specs.Facts.{item_in}
use Rattle.list_parts.proofs.Items.{item-none, item-here, item_on}
use Rattle.list_parts.proofs.places.item_of.Goals as goal

pub loop-at-init : goal.loop-at-init
loop-at-init c = ap (λ ks. item_in ks c.args.j) c.first_item-at.ensures.all

pub returns : goal.returns
returns c =
    item-none _ _ (left-done _ _ c.in_default.is) ∙ c.loop-at.invariant

pub returns-then-n-eq0 : goal.returns-then-n-eq0
returns-then-n-eq0 c =
    item-here _ (left_here _ _ c.in-Some.is) ∙ ap (item_in (left _ _ _)) (sym c.if-n-eq0.true)
    ∙ c.loop-at.invariant

pub loop-at-preserved : goal.loop-at-preserved
loop-at-preserved c =
    item_on _ _ (left-on _ _ c.in-Some.is c.next_item-at.ensures) c.if-n-eq0.false
    ∙ c.loop-at.invariant
