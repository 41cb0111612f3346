use mathlib.Core.Path.{◌∙◌}
use borrow.Author.Rules.{rules}
use Rattle.list_read.proofs.Parts.{counted_none, counted-at, array-inside}
use Rattle.list_read.proofs.seeing.addresses_of.Goals as goal

pub returns-in_err-array_place : goal.returns-in_err-array_place
returns-in_err-array_place c =
    c.from_residual.ensures ∙ counted_none _ _ c.array_place.ensures c.in_err-array_place.was

pub addresses_in-requires : goal.addresses_in-requires
addresses_in-requires c = array-inside _ _ c.array_place.ensures c.in_ok-array_place.was

pub returns : goal.returns
returns c = counted-at _ _ c.array_place.ensures c.in_ok-array_place.was c.addresses_in.ensures
