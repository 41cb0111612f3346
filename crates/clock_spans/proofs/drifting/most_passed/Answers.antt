-- `clock_spans::drifting::most_passed` meets its contract.
use Rattle.clock_spans.proofs.Parts.{most-parts}
use native.Mathlib.Omega.{arith}
use Rattle.clock_spans.proofs.drifting.most_passed.Goals as goal

pub returns : goal.returns
returns c = omega (arith, most-parts c.args.drift c.args.d)
