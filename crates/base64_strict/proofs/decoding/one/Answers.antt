use Rattle.laws.proofs.Picks.{choices}
use Rattle.base64_strict.specs.Decode.{one_of}
use borrow.Author.Rules.{rules}
use Rattle.base64_strict.proofs.decoding.one.Goals as goal

pub returns-then-q-eq0 : goal.returns-then-q-eq0
unfolding one_of
returns-then-q-eq0 c = search (choices, rules)

pub returns-else-q-eq0 : goal.returns-else-q-eq0
unfolding one_of
returns-else-q-eq0 c = search (choices, rules)
