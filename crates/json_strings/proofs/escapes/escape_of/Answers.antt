use borrow.Author.Rules.{rules}
use mathlib.Core.Path.{refl}
use Rattle.laws.specs.Pick.{pick}
use Rattle.json_strings.specs.Text.{escape_of}
use Rattle.json_strings.proofs.Content.{told-zero}
use Rattle.json_strings.proofs.Units.{units}
use Rattle.json_strings.proofs.escapes.escape_of.Goals as goal

pub returns-in-34 : goal.returns-in-34
unfolding escape_of pick
returns-in-34 c = rw c.in-34.is refl

pub returns-in-92 : goal.returns-in-92
unfolding escape_of pick
returns-in-92 c = rw c.in-92.is refl

pub returns-in-47 : goal.returns-in-47
unfolding escape_of pick
returns-in-47 c = rw c.in-47.is refl

pub returns-in-98 : goal.returns-in-98
unfolding escape_of pick
returns-in-98 c = rw c.in-98.is refl

pub returns-in-102 : goal.returns-in-102
unfolding escape_of pick
returns-in-102 c = rw c.in-102.is refl

pub returns-in-110 : goal.returns-in-110
unfolding escape_of pick
returns-in-110 c = rw c.in-110.is refl

pub returns-in-114 : goal.returns-in-114
unfolding escape_of pick
returns-in-114 c = rw c.in-114.is refl

pub returns-in-116 : goal.returns-in-116
unfolding escape_of pick
returns-in-116 c = rw c.in-116.is refl

pub returns-in_default : goal.returns-in_default
unfolding escape_of
returns-in_default c = told-zero _ (search (units, rules) depth 12)
