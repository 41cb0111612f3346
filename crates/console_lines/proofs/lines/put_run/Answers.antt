-- `console_lines::lines::put_run` meets its contract. Its pieces follow each other.
use native.Mathlib.Omega.{arith}
use Rattle.console_lines.specs.Line.{two_spaced, run_line}
use Rattle.laws.proofs.Written.{puts-more}
use borrow.Author.Rules.{rules}
use Rattle.console_lines.proofs.lines.put_run.Goals as goal

pub returns : goal.returns
unfolding run_line two_spaced
returns c =
    let p1 = c.put_word-a.ensures in
    let p2 = c.put_spaced-b.ensures in
    let p3 = c.put_spaced-c.ensures in
    let p4 = c.put_word.ensures in record {
      puts = puts-more (puts-more p1 (puts-more p2.puts p3.puts)) p4;
      upper_bound = omega (arith, p1.ends, p2.upper_bound, p3.upper_bound, p4.ends);
    }
