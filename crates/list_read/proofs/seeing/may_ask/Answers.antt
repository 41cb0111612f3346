use mathlib.Core.Bool.{not}
use borrow.Author.Rules.{rules}
use mathlib.Core.Path.{refl, ap}
use Rattle.list_read.proofs.Small.{both-no, both-on}
use Rattle.list_read.specs.Facts.{may_ask}
use Rattle.list_read.proofs.seeing.may_ask.Goals as goal

pub returns-then-not-is_word : goal.returns-then-not-is_word
unfolding may_ask
returns-then-not-is_word c = both-no _ c.is_word.ensures (ap not c.if-not-is_word.true)

pub returns-then-not-is_ours : goal.returns-then-not-is_ours
unfolding may_ask
returns-then-not-is_ours c =
    both-on c.is_word.ensures (ap not c.if-not-is_word.false) (both-no _ c.is_ours.ensures (ap not c.if-not-is_ours.true))

pub returns : goal.returns
unfolding may_ask
returns c =
    both-on c.is_word.ensures (ap not c.if-not-is_word.false) (both-on c.is_ours.ensures (ap not c.if-not-is_ours.false) refl)
