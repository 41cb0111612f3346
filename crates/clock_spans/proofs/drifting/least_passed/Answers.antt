-- `clock_spans::drifting::least_passed` meets its contract.
use Rattle.clock_spans.proofs.Parts.{least-parts}
use Rattle.clock_spans.proofs.drifting.least_passed.Goals as goal

pub returns : goal.returns
returns c = rw c.saturating_sub-rate.ensures (least-parts _ _)
