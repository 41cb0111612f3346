use mathlib.Core.Path.{ap}
use borrow.Author.Rules.{rules}
use Rattle.laws.proofs.Picks.{and_no, and-on}
use Rattle.list_address.specs.Host.{is_label, is_name}
use Rattle.list_address.specs.Facts.{parted}
use Rattle.list_address.proofs.Lines.{name-wrong, name-last}
use Rattle.list_address.proofs.domain.is_name.Goals as goal

pub returns-then-s-gt253 : goal.returns-then-s-gt253
unfolding is_name
returns-then-s-gt253 c = and_no _ c.if-s-gt253.true

pub returns-in_default : goal.returns-in_default
unfolding is_name
returns-in_default c =
    and-on c.if-s-gt253.false
    (name-wrong (c.line.ensures is_label record { tells = λ x r e. search rules }) (ap parted c.in_default.is))

pub returns : goal.returns
unfolding is_name
returns c =
    and-on c.if-s-gt253.false
    (name-last (c.line.ensures is_label record { tells = λ x r e. search rules }) (ap parted c.in-Some.is) c.is_last_label.ensures)
