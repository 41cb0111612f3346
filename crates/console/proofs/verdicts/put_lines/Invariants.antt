-- `console::verdicts::put_lines` meets its contract. The lines of the records that were passed are put, each of 108
-- bytes at most.
use mathlib.Core.Path.{◌≡◌, ap}
use mathlib.Core.List.{◌++◌}
use Prim.Native.Nat.{ℕ, suc, ◌+◌, ◌*◌, ◌-◌, ◌≤◌}
use native.Mathlib.Omega.{arith}
use Rattle.pile.specs.declared.Judgement.{Judgement}
use Rattle.pile_report.specs.Report.{judged}
use Rattle.laws.specs.Written.{Puts}
use Rattle.console_lines.specs.Line.{record_line}
use Rattle.console.specs.Text.{record_lines}
use Rattle.laws.proofs.Written.{puts_none, puts-length, puts-more, puts-as}
use borrow.Author.Rules.{rules}
use Rattle.console.proofs.verdicts.put_lines.Given as goal

abbrev pub invariant-loop-k : goal.invariant-loop-k
invariant-loop-k l =
    (l.k ≤ l.n) × (l.end ≤ l.at + 108 * l.k) × Puts l.initial.out l.at (record_lines (judged l.pile l.answers) l.k) l.out l.end

abbrev pub decreases-loop-k : goal.decreases-loop-k
decreases-loop-k l = l.n - l.k
