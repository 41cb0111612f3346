use Rattle.laws.proofs.Picks.{choices}
use Rattle.base64_strict.specs.Alphabet.{sextet_of}
use borrow.Author.Rules.{rules}
use mathlib.Core.Path.{sym, ◌∙◌}
use Rattle.std.proofs.Common.{◌<◌}
use native.Mathlib.Omega.{arith}
use Rattle.base64_strict.proofs.Tables.{sextet-over, number-is, number-not}
use Rattle.base64_strict.proofs.alphabet.sextet.Goals as goal

pub returns-in_err-b : goal.returns-in_err-b
returns-in_err-b c =
    let i : 127 < c.args.c = search rules in c.from_residual.ensures ∙ number-not c.args.c (sym (sextet-over c.args.c i))

pub returns-in-43 : goal.returns-in-43
unfolding sextet_of
returns-in-43 c = number-is c.args.c (search (choices, rules) depth 12) (omega arith)

pub returns-in-47 : goal.returns-in-47
unfolding sextet_of
returns-in-47 c = number-is c.args.c (search (choices, rules) depth 12) (omega arith)

pub returns-in-48-to-57 : goal.returns-in-48-to-57
unfolding sextet_of
returns-in-48-to-57 c = number-is c.args.c (search (choices, rules) depth 12) (omega arith)

pub returns-in-65-to-90 : goal.returns-in-65-to-90
unfolding sextet_of
returns-in-65-to-90 c = number-is c.args.c (search (choices, rules) depth 12) (omega arith)

pub returns-in-97-to-122 : goal.returns-in-97-to-122
unfolding sextet_of
returns-in-97-to-122 c = number-is c.args.c (search (choices, rules) depth 12) (omega arith)

pub returns-in_default : goal.returns-in_default
unfolding sextet_of
returns-in_default c = number-not c.args.c (search (choices, rules) depth 12)

pub returns-in_default-2 : goal.returns-in_default-2
unfolding sextet_of
returns-in_default-2 c = number-not c.args.c (search (choices, rules) depth 12)

pub returns-in_default-3 : goal.returns-in_default-3
unfolding sextet_of
returns-in_default-3 c = number-not c.args.c (search (choices, rules) depth 12)

pub returns-in_default-4 : goal.returns-in_default-4
unfolding sextet_of
returns-in_default-4 c = number-not c.args.c (search (choices, rules) depth 12)
