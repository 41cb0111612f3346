-- `console_lines::lines::put_refusal` meets its contract. Its pieces follow each other.
use native.Mathlib.Omega.{arith}
use Rattle.console_lines.specs.Line.{refusal_line}
use Rattle.laws.proofs.Written.{puts-more}
use borrow.Author.Rules.{rules}
use Rattle.console_lines.proofs.lines.put_refusal.Goals as goal

pub returns : goal.returns
unfolding refusal_line
returns c =
    let p5 = c.put_word.ensures in
    let p4 = c.put_place-d.ensures in
    let p3 = c.put_spaced-c.ensures in
    let p2 = c.put_word-b.ensures in
    let p1 = c.put_number-a.ensures in record { puts = puts-more (puts-more (puts-more (puts-more p1.puts p2) p3.puts) p4.puts) p5; upper_bound = omega (arith, p1.upper_bound, p2.ends, p3.upper_bound, p4.upper_bound, p5.ends) }
