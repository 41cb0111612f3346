-- `clock_spans::spanning::high_at` meets its contract.
use borrow.Author.Rules.{rules}
use Rattle.clock_spans.specs.Drift.{high_later}
use Rattle.clock_spans.specs.Spans.{high_at}
use Rattle.clock_spans.proofs.spanning.high_at.Goals as goal

pub returns : goal.returns
unfolding high_at high_later
returns c = search rules
