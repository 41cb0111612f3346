use Rattle.report_read.specs.Entry.{elements_of}
use Rattle.list_read.specs.Server.{in_servers}
use Rattle.list_read.proofs.Items.{fuel}
use Rattle.list_read.proofs.Tallying.{Going}
use Rattle.list_read.proofs.tallies.tally.Given as goal

abbrev pub invariant-loop-at : goal.invariant-loop-at
invariant-loop-at l = Going l.s (elements_of l.s in_servers l.v) l.at l.t

abbrev pub decreases-loop-at : goal.decreases-loop-at
decreases-loop-at l = fuel l.s l.at
