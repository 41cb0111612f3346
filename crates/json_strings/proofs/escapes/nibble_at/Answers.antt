use borrow.Author.Rules.{rules}
use Rattle.json_strings.specs.Text.{nibble_at}
use Rattle.json_strings.proofs.escapes.nibble_at.Goals as goal

pub returns : goal.returns
unfolding nibble_at
returns c = (cc, search rules)
