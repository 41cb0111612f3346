-- The lines that are still to come are left to put.
use mathlib.Core.Bool.{true}
use mathlib.Core.Path.{◌≡◌}
use Rattle.list_write.specs.Lines.{lines_of, all_good}
use Rattle.list_write.specs.Texts.{row, element_text}
use Rattle.list_write.specs.Facts.{lines_left}
use Rattle.list_write.proofs.Arrays.{Rowing}
use Rattle.list_write.proofs.rows.put_items.Given as goal

abbrev pub invariant-loop-line : goal.invariant-loop-line
invariant-loop-line l =
    (goal.iterator-loop-line).can_next l.line-iterator
    × (goal.iterator-loop-line).is_finite l.line-iterator
    × (all_good l.fn.item (lines_left l.line-iterator) ≡ true)
    × Rowing (element_text l.fn.item) (row (element_text l.fn.item) true (lines_of l.fn.s)) l.initial.out l.fn.at
    (lines_left l.line-iterator) l.before l.out l.j
