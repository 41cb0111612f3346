-- Room for the lines that are still to come is left to take.
use mathlib.Core.Bool.{true}
use mathlib.Core.Path.{◌≡◌}
use lib.ListN.{length}
use Rattle.list_write.specs.Lines.{lines_of, all_good}
use Rattle.list_write.specs.Texts.{row, element_text}
use Rattle.list_write.specs.Facts.{lines_left}
use Rattle.list_write.proofs.Arrays.{Roomed}
use Rattle.list_write.proofs.sizing.items_room.Given as goal

abbrev pub invariant-loop-line : goal.invariant-loop-line
invariant-loop-line l =
    (goal.iterator-loop-line).can_next l.line-iterator
    × (goal.iterator-loop-line).is_finite l.line-iterator
    × (all_good l.fn.item (lines_left l.line-iterator) ≡ true)
    × Roomed (element_text l.fn.item) (length (row (element_text l.fn.item) true (lines_of l.fn.s))) l.fn.room
    (lines_left l.line-iterator) l.before l.left
