-- `clock_spans::spanning::is_used` meets its contract.
use borrow.Author.Rules.{rules}
use Rattle.clock_spans.specs.Spans.{used_at}
use Rattle.clock_spans.proofs.spanning.is_used.Goals as goal

pub returns-then-w-ne0 : goal.returns-then-w-ne0
unfolding used_at
returns-then-w-ne0 c = search rules
