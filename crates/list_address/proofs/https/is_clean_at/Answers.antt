use mathlib.Core.Path.{◌∙◌, ap}
use mathlib.Core.Bool.{not}
use Rattle.list_address.specs.Chars.{hex_digit}
use Rattle.list_address.proofs.Rest.{percent-clean}
use Rattle.list_address.proofs.Tests.{both-stop, both-on}
use Rattle.list_address.proofs.https.is_clean_at.Goals as goal

pub returns-then-is_hex : goal.returns-then-is_hex
returns-then-is_hex c =
    percent-clean c.args.s.now c.args.k c.in-37.is
    (both-on (c.is_hex.ensures ∙ ap hex_digit c.byte.ensures) (ap not c.if-is_hex.true)
    (c.is_hex-then-is_hex.ensures ∙ ap hex_digit c.byte-then-is_hex.ensures))

pub returns-else-is_hex : goal.returns-else-is_hex
returns-else-is_hex c =
    c.if-is_hex.false
    ∙ percent-clean c.args.s.now c.args.k c.in-37.is
    (both-stop _ (c.is_hex.ensures ∙ ap hex_digit c.byte.ensures) (ap not c.if-is_hex.false))
