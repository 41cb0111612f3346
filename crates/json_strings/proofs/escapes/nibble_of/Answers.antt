use borrow.Author.Rules.{rules}
use Rattle.json_strings.specs.Text.{nibble_of}
use Rattle.json_strings.proofs.Units.{units}
use Rattle.json_strings.proofs.escapes.nibble_of.Goals as goal

pub returns-then-b-lt48 : goal.returns-then-b-lt48
unfolding nibble_of
returns-then-b-lt48 c = search (units, rules) depth 12

pub returns-then-b-le57 : goal.returns-then-b-le57
unfolding nibble_of
returns-then-b-le57 c = search (units, rules) depth 12

pub returns-then-b-lt65 : goal.returns-then-b-lt65
unfolding nibble_of
returns-then-b-lt65 c = search (units, rules) depth 12

pub returns-then-b-le70 : goal.returns-then-b-le70
unfolding nibble_of
returns-then-b-le70 c = search (units, rules) depth 12

pub returns-then-b-lt97 : goal.returns-then-b-lt97
unfolding nibble_of
returns-then-b-lt97 c = search (units, rules) depth 12

pub returns-then-b-le102 : goal.returns-then-b-le102
unfolding nibble_of
returns-then-b-le102 c = search (units, rules) depth 12

pub returns : goal.returns
unfolding nibble_of
returns c = search (units, rules) depth 12
