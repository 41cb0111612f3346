use borrow.Author.Rules.{rules}
use native.Mathlib.Omega.{arith}
use Rattle.json_strings.specs.Text.{unit_at}
use Rattle.json_tokens.proofs.Picks.{over}
use Rattle.json_strings.proofs.Units.{units}
use Rattle.json_strings.proofs.strings.unit_of.Goals as goal

pub byte-b-requires : goal.byte-b-requires
unfolding unit_at
byte-b-requires c = search (units, rules) depth 9

pub overflow_add-result : goal.overflow_add-result
unfolding unit_at
overflow_add-result c = search (units, rules) depth 9

pub returns-then-b-eq34 : goal.returns-then-b-eq34
unfolding unit_at
returns-then-b-eq34 c = search (units, rules) depth 9

pub overflow_add-at : goal.overflow_add-at
unfolding unit_at
overflow_add-at c = search (units, rules) depth 9

pub escape-requires : goal.escape-requires
unfolding unit_at
escape-requires c =
    let i = over c.args.s.now c.byte-b.ensures (omega arith) in
    omega arith

pub returns-then-b-eq92 : goal.returns-then-b-eq92
unfolding unit_at
returns-then-b-eq92 c = search (units, rules) depth 9

pub returns-then-b-lt32 : goal.returns-then-b-lt32
unfolding unit_at
returns-then-b-lt32 c = search (units, rules) depth 9

pub overflow_cast-result : goal.overflow_cast-result
unfolding unit_at
overflow_cast-result c = search (units, rules) depth 9

pub overflow_add-result-then-b-lt128 : goal.overflow_add-result-then-b-lt128
unfolding unit_at
overflow_add-result-then-b-lt128 c = search (units, rules) depth 9

pub wide-requires : goal.wide-requires
unfolding unit_at
wide-requires c =
    let i =
    over c.args.s.now
    c.byte-b.ensures (omega arith) in omega arith

pub returns-then-b-lt128 : goal.returns-then-b-lt128
unfolding unit_at
returns-then-b-lt128 c = search (units, rules) depth 9

pub returns-else-b-lt128 : goal.returns-else-b-lt128
unfolding unit_at
returns-else-b-lt128 c = search (units, rules) depth 9
