use borrow.Author.Rules.{rules}
use mathlib.Core.Path.{◌≡◌, sym, ◌∙◌, ap}
use Rattle.report_read.specs.Entry.{elements_of}
use Rattle.list_read.specs.Facts.{left}
use Rattle.list_read.proofs.Items.{left-done, left_here, left-on}
use Rattle.list_parts.specs.Facts.{item_in}
use Rattle.list_parts.proofs.Items.{item-none, item-here, item_on}
use Rattle.list_parts.proofs.places.item_of.Given as goal

abbrev pub invariant-loop-at : goal.invariant-loop-at
invariant-loop-at l =
    item_in (left l.s l.depth l.at) l.n ≡ item_in (elements_of l.s l.depth l.v) l.j

abbrev pub decreases-loop-at : goal.decreases-loop-at
decreases-loop-at l = l.n
