-- `console_lines::lines::put_window` meets its contract. Its pieces follow each other.
use native.Mathlib.Omega.{arith}
use Rattle.console_lines.specs.Line.{two_spaced, window_line}
use Rattle.laws.proofs.Written.{puts-more}
use borrow.Author.Rules.{rules}
use Rattle.console_lines.proofs.lines.put_window.Goals as goal

pub returns : goal.returns
unfolding window_line two_spaced
returns c =
    let p1 = c.put_number-a.ensures in
    let p2 = c.put_word-b.ensures in
    let p3 = c.put_spaced-c.ensures in
    let p4 = c.put_spaced-d.ensures in
    let p5 = c.put_spaced-e.ensures in
    let p6 = c.put_spaced-f.ensures in
    let p7 = c.put_word.ensures in record {
      puts = puts-more
          (puts-more (puts-more (puts-more p1.puts p2) (puts-more p3.puts p4.puts)) (puts-more p5.puts p6.puts))
          p7;
      upper_bound = omega
          (arith, p1.upper_bound, p2.ends, p3.upper_bound, p4.upper_bound, p5.upper_bound, p6.upper_bound, p7.ends);
    }
