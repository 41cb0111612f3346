-- `console_lines::lines::put_place` meets its contract. The code is below 4, above 7, or carries the place.
use native.Mathlib.Omega.{arith}
use borrow.Author.Rules.{rules}
use borrow.Author.Tests.{le-leb, lt-leb}
use Rattle.console_lines.specs.Line.{place_text}
use Rattle.laws.proofs.Written.{puts_none}
use Rattle.console_lines.proofs.lines.put_place.Goals as goal

pub returns-then-code-lt-FRAME : goal.returns-then-code-lt-FRAME
unfolding place_text
returns-then-code-lt-FRAME c =
    rw (lt-leb 4 _ c.if-code-lt-FRAME.true) (record { puts = puts_none _ _ (omega arith); upper_bound = omega arith })

pub returns-then-code-gt-VALUE : goal.returns-then-code-gt-VALUE
unfolding place_text
returns-then-code-gt-VALUE c =
    rw (le-leb 4 _ c.if-code-lt-FRAME.false, lt-leb _ 7 c.if-code-gt-VALUE.true) (record { puts = puts_none _ _ (omega arith); upper_bound = omega arith })

pub returns : goal.returns
unfolding place_text
returns c =
    rw (le-leb 4 _ c.if-code-lt-FRAME.false, le-leb _ 7 c.if-code-gt-VALUE.false)
    c.put_spaced.ensures
