use borrow.Author.Rules.{rules}
use mathlib.Core.Path.{sym, ◌∙◌}
use Rattle.laws.specs.Pick.{both}
use Rattle.json_tokens.specs.Number.{lone_digit}
use Rattle.json_tokens.proofs.Lone.{digit-next}
use Rattle.json_tokens.proofs.Picks.{picks}
use Rattle.json_tokens.proofs.numbers.lone_digit.Goals as goal

pub overflow_add-at : goal.overflow_add-at
unfolding both
overflow_add-at c =
    digit-next c.args.s.now c.args.at
    c.byte.ensures (sym c.is_ascii_digit.ensures.value ∙ c.if-is_ascii_digit.true) (search rules)

pub returns-in-44 : goal.returns-in-44
unfolding lone_digit both
returns-in-44 c = search (picks, rules)

pub returns-in_default : goal.returns-in_default
unfolding lone_digit both
returns-in_default c = search (picks, rules)

pub returns-else-is_ascii_digit : goal.returns-else-is_ascii_digit
unfolding lone_digit both
returns-else-is_ascii_digit c = search (picks, rules)
