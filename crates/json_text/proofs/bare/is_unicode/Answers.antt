use borrow.Author.Rules.{rules}
use Rattle.json_text.proofs.NoEscapes.{unicode}
use Rattle.json_text.proofs.bare.is_unicode.Goals as goal

pub returns-then-b-ne92 : goal.returns-then-b-ne92
returns-then-b-ne92 c = search (unicode, rules)
