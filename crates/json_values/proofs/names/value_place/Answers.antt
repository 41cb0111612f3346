use borrow.Author.Rules.{rules}
use Rattle.json_tokens.specs.Scan.{then}
use Rattle.json_values.specs.Members.{place_of, value_place}
use Rattle.json_values.proofs.names.value_place.Goals as goal

pub returns : goal.returns
unfolding value_place place_of then
returns c = let h = c.and_then.ensures in let i = c.unwrap_or.ensures in let j = c.string.ensures in search rules
