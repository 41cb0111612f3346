use borrow.Author.Rules.{rules}
use native.Mathlib.Omega.{arith}
use mathlib.Core.Path.{sym}
use Rattle.json_tokens.specs.Scan.{after}
use Rattle.json_tokens.proofs.Picks.{over, picks}
use Rattle.json_tokens.proofs.scan.after_item.Goals as goal

pub overflow_add-result : goal.overflow_add-result
unfolding after
overflow_add-result c =
    let i = over c.args.s.now c.byte-b.ensures (omega arith) in
    record { fits = omega arith }

pub returns-then-b-close : goal.returns-then-b-close
unfolding after
returns-then-b-close c = rw (sym c.blanks-c.ensures) (search (picks, rules))

pub overflow_add-c : goal.overflow_add-c
unfolding after
overflow_add-c c = search (picks, rules) depth 8

pub returns-then-b-eq44 : goal.returns-then-b-eq44
unfolding after
returns-then-b-eq44 c =
    rw (sym c.blanks-c.ensures, sym c.blanks.ensures) (search (picks, rules))

pub returns-else-b-eq44 : goal.returns-else-b-eq44
unfolding after
returns-else-b-eq44 c = rw (sym c.blanks-c.ensures) (search (picks, rules))
