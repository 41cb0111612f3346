-- `pile::piles::length_bad` meets its contract.
use borrow.Author.Rules.{rules}
use Rattle.laws.specs.Any.{any}
use Rattle.pile.specs.Pile.{length_bad}
use Rattle.pile.proofs.piles.length_bad.Goals as goal

pub returns-else-n-lt1 : goal.returns-else-n-lt1
unfolding length_bad any
returns-else-n-lt1 c = search rules
