use Rattle.laws.proofs.Picks.{choices}
use Rattle.base64_strict.specs.Decode.{three_of}
use borrow.Author.Rules.{rules}
use Rattle.base64_strict.proofs.decoding.three.Goals as goal

pub returns : goal.returns
unfolding three_of
returns c = search (choices, rules)
