use borrow.Author.Rules.{rules}
use mathlib.Core.Path.{sym, ◌∙◌}
use native.Mathlib.Omega.{arith}
use Rattle.json_values.specs.Value.{plain_at}
use Rattle.json_tokens.proofs.Lone.{lone-number}
use Rattle.json_tokens.proofs.Picks.{inside, picks}
use Rattle.json_values.proofs.Words.{lone-next, string-empty}
use Rattle.json_values.proofs.values.plain.Goals as goal

pub returns-then-byte-eq34 : goal.returns-then-byte-eq34
unfolding plain_at
returns-then-byte-eq34 c =
    let a = c.args in
    let e = string-empty a.s.now a.at c.byte-b.ensures c.if-b-eq34.true
    c.byte.ensures c.if-byte-eq34.true in search (picks, rules)

pub returns-then-b-eq34 : goal.returns-then-b-eq34
unfolding plain_at
returns-then-b-eq34 c =
    let e = c.again.ensures ∙ c.string.ensures in search (picks, rules)

pub literal-requires : goal.literal-requires
literal-requires c = (
  let i = inside c.args.s.now
      c.byte-b.ensures c.if-b-eq116.true tt in omega arith,
  search rules,
)

pub returns-then-b-eq116 : goal.returns-then-b-eq116
unfolding plain_at
returns-then-b-eq116 c = search (picks, rules)

pub literal-requires-then-b-eq102 : goal.literal-requires-then-b-eq102
literal-requires-then-b-eq102 c = (
  let i = inside c.args.s.now
      c.byte-b.ensures c.if-b-eq102.true tt in omega arith,
  search rules,
)

pub returns-then-b-eq102 : goal.returns-then-b-eq102
unfolding plain_at
returns-then-b-eq102 c = search (picks, rules)

pub literal-requires-then-b-eq110 : goal.literal-requires-then-b-eq110
literal-requires-then-b-eq110 c = (
  let i = inside c.args.s.now
      c.byte-b.ensures c.if-b-eq110.true tt in omega arith,
  search rules,
)

pub returns-then-b-eq110 : goal.returns-then-b-eq110
unfolding plain_at
returns-then-b-eq110 c = search (picks, rules) depth 7

pub returns-then-lone_digit : goal.returns-then-lone_digit
unfolding plain_at
returns-then-lone_digit c =
    let n = sym (lone-number c.args.s.now _
    c.lone_digit.ensures c.if-lone_digit.true) in search (picks, rules) depth 8

pub returns-else-lone_digit : goal.returns-else-lone_digit
unfolding plain_at
returns-else-lone_digit c = search (picks, rules) depth 8

pub overflow_add-at : goal.overflow_add-at
overflow_add-at c = search (picks, rules)

pub overflow_add-result : goal.overflow_add-result
overflow_add-result c = omega (
  arith,
  inside c.args.s.now c.byte.ensures
      c.if-byte-eq34.true tt,
)

pub overflow_add-result-then-lone_digit : goal.overflow_add-result-then-lone_digit
overflow_add-result-then-lone_digit c = lone-next c.args.s.now
    c.args.at c.lone_digit.ensures
    c.if-lone_digit.true (search rules)
