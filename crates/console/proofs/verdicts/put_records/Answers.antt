-- `console::verdicts::put_records` meets its contract. The records follow their count.
use native.Mathlib.Omega.{arith}
use Rattle.laws.proofs.Written.{puts-more}
use borrow.Author.Rules.{rules}
use Rattle.console.proofs.verdicts.put_records.Goals as goal

pub returns : goal.returns
returns c =
    let p1 = c.put_labelled-at.ensures in
    let p2 = c.put_lines.ensures in record { puts = puts-more p1.puts p2.puts; upper_bound = omega (arith, p1.upper_bound, p2.upper_bound) }
