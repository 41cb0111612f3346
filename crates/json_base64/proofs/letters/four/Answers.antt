use mathlib.Core.Bool.{true≢false}
use mathlib.Core.Path.{sym}
use native.Mathlib.Omega.{arith}
use Rattle.json_base64.proofs.Lettered.{lettered-four}
use Rattle.json_base64.proofs.letters.four.Goals as goal

pub returns-then-s-lt4 : goal.returns-then-s-lt4
returns-then-s-lt4 c = λ e. absurd (true≢false (sym e))

pub returns-then-s-at : goal.returns-then-s-at
returns-then-s-at c = λ e. absurd (true≢false (sym e))

pub returns : goal.returns
returns c =
    let a = c.args in
    lettered-four a.s.now a.at c.is_letter.ensures
    c.is_letter-2.ensures c.is_letter-3.ensures
    c.is_letter-4.ensures (omega arith)
