use Rattle.laws.proofs.Picks.{choices}
use Rattle.base64_strict.specs.Decode.{two_of}
use borrow.Author.Rules.{rules}
use Rattle.base64_strict.proofs.decoding.two.Goals as goal

pub returns-then-r-eq0 : goal.returns-then-r-eq0
unfolding two_of
returns-then-r-eq0 c = search (choices, rules)

pub returns-else-r-eq0 : goal.returns-else-r-eq0
unfolding two_of
returns-else-r-eq0 c = search (choices, rules)
