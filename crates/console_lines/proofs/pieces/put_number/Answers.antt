-- `console_lines::pieces::put_number` meets its contract. The digits are the number's.
use mathlib.Core.Path.{◌∙◌}
use native.Mathlib.Omega.{arith}
use Rattle.laws.proofs.Written.{puts-as}
use Rattle.console_lines.proofs.Decimals.{decimal-short, decimal-is}
use borrow.Author.Rules.{rules}
use Rattle.console_lines.proofs.pieces.put_number.Goals as goal

pub put_word-requires : goal.put_word-requires
put_word-requires c =
    let d = c.decimal-n.ensures in
    omega (arith, d.in_bounds.1, decimal-short _ _ (omega arith) d.len)

pub returns : goal.returns
returns c =
    let d = c.decimal-n.ensures in
    let p = c.put_word.ensures in
    let short = decimal-short _ _ (omega arith) d.len in record { puts = puts-as (d.digits ∙ decimal-is _ _ 20 d.len short) p; upper_bound = omega (arith, p.ends, d.in_bounds.1, short) }
