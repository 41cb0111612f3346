-- `wire_message::rules::values_code` meets its contract. The scan has found no such row before this one.
use mathlib.Core.Path.{◌≡◌}
use Rattle.laws.specs.Least.{least}
use Rattle.wire_message.specs.Rules.{row_broken}
use Rattle.wire_message.proofs.rules.values_code.Given as goal

abbrev pub invariant-loop-row : goal.invariant-loop-row
invariant-loop-row l = least (row_broken l.m l.table) l.row-index ≡ l.row-index
