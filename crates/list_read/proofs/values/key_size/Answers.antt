use mathlib.Core.Path.{◌∙◌}
use borrow.Author.Rules.{rules}
use Rattle.report_read.specs.Entry.{size_in}
use Rattle.list_read.proofs.Parts.{key-at, key-none}
use Rattle.list_read.proofs.values.key_size.Goals as goal

pub returns-in_err-string_place : goal.returns-in_err-string_place
returns-in_err-string_place c =
    c.from_residual.ensures ∙ key-none _ _ c.string_place.ensures c.in_err-string_place.was

pub returns : goal.returns
unfolding size_in
returns c = key-at _ _ c.string_place.ensures c.in_ok-string_place.was c.size_of.ensures
