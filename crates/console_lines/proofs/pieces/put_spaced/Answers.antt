-- `console_lines::pieces::put_spaced` meets its contract. The number follows the space.
use native.Mathlib.Omega.{arith}
use Rattle.console_lines.specs.Line.{spaced}
use Rattle.laws.proofs.Written.{puts-more}
use borrow.Author.Rules.{rules}
use Rattle.console_lines.proofs.pieces.put_spaced.Goals as goal

pub returns : goal.returns
unfolding spaced
returns c =
    let p1 = c.put_word-digits.ensures in
    let p2 = c.put_number.ensures in record { puts = puts-more p1 p2.puts; upper_bound = omega (arith, p1.ends, p2.upper_bound) }
