-- `wire_message::rules::row_broken` meets its contract. From what its callees ensure.
use mathlib.Core.Path.{sym, ◌∙◌}
use Rattle.wire_message.specs.Rules.{broken}
use Rattle.wire_message.proofs.rules.row_broken.Goals as goal

pub returns-then-has_tag : goal.returns-then-has_tag
unfolding broken
returns-then-has_tag c = rw (c.value_bad.ensures, c.value_of.ensures, sym c.has_tag.ensures ∙ c.if-has_tag.true)

pub returns-else-has_tag : goal.returns-else-has_tag
unfolding broken
returns-else-has_tag c = rw (c.if-has_tag.false, sym c.has_tag.ensures ∙ c.if-has_tag.false)
