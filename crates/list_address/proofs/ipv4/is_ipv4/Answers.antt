use mathlib.Core.Path.{◌∙◌, ap}
use borrow.Author.Rules.{rules}
use borrow.Author.Tests.{ne_eqb}
use Rattle.list_address.specs.Decimal.{is_octet}
use Rattle.list_address.specs.Facts.{parted}
use Rattle.list_address.proofs.Lines.{ipv4-wrong, ipv4-other, ipv4-last}
use Rattle.list_address.proofs.ipv4.is_ipv4.Goals as goal

pub returns-in_default : goal.returns-in_default
returns-in_default c =
    ipv4-wrong (c.line.ensures is_octet record { tells = λ x r e. search rules }) (ap parted c.in_default.is)

pub returns-then-n-eq3 : goal.returns-then-n-eq3
returns-then-n-eq3 c =
    ipv4-last (c.line.ensures is_octet record { tells = λ x r e. search rules }) (ap parted c.in-Some.is) c.if-n-eq3.true
    c.is_octet.ensures

pub returns-else-n-eq3 : goal.returns-else-n-eq3
returns-else-n-eq3 c =
    ne_eqb _ 3 c.if-n-eq3.false
    ∙ ipv4-other (c.line.ensures is_octet record { tells = λ x r e. search rules }) (ap parted c.in-Some.is) c.if-n-eq3.false
