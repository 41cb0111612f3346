use mathlib.Core.Path.{◌∙◌}
use lib.Dec.{eqb}
use Rattle.laws.specs.Ascii.{ascii}
use Rattle.list_address.specs.Chars.{url_char, one_of}
use Rattle.list_address.proofs.Scans.{any_somewhere}
use Rattle.list_address.proofs.Tests.{either-on}
use Rattle.list_address.proofs.chars.is_url_char.Goals as goal

pub returns-else-is_label_char : goal.returns-else-is_label_char
unfolding url_char one_of
returns-else-is_label_char c =
    either-on c.is_label_char.ensures c.if-is_label_char.false
    (c.contains.ensures.value ∙ any_somewhere (λ k. eqb k c.args.b) (ascii "._~!$&'()*+,;=:@/?"))
