use borrow.Author.Rules.{rules}
use native.Mathlib.Omega.{arith}
use mathlib.Core.Path.{sym}
use Rattle.json_strings.specs.Text.{escape_at}
use Rattle.json_tokens.proofs.Picks.{inside}
use Rattle.json_strings.proofs.Content.{told-none, told-some}
use Rattle.json_strings.proofs.Units.{units}
use Rattle.json_strings.proofs.escapes.escape.Goals as goal

pub overflow_add-at : goal.overflow_add-at
overflow_add-at c = search (units, rules)

pub hex-requires : goal.hex-requires
hex-requires c =
    let i = inside c.args.s.now c.byte-b.ensures c.if-b-eq117.true tt in
    omega arith

pub returns-then-b-eq117 : goal.returns-then-b-eq117
unfolding escape_at
returns-then-b-eq117 c = search (units, rules)

pub returns-in_default : goal.returns-in_default
unfolding escape_at
returns-in_default c =
    let z = told-none _ c.escape_of.ensures c.in_default.is in
    rw (sym c.byte-b.ensures) (search (units, rules))

pub returns : goal.returns
unfolding escape_at
returns c =
    let z = told-some _ c.escape_of.ensures c.in-Some.is in
    rw (sym c.byte-b.ensures) (search (units, rules))
