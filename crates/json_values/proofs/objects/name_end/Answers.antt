use borrow.Author.Rules.{rules}
use mathlib.Core.Path.{sym, ◌∙◌}
use Rattle.json_strings.proofs.Content.{end_none, end-past}
use Rattle.json_values.proofs.objects.name_end.Goals as goal

pub returns-then-past-eq0 : goal.returns-then-past-eq0
returns-then-past-eq0 c = end_none c.if-past-eq0.true ∙ sym c.requires

pub returns-else-past-eq0 : goal.returns-else-past-eq0
returns-else-past-eq0 c = end-past c.if-past-eq0.false ∙ sym c.requires
