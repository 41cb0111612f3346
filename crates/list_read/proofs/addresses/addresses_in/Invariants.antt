use borrow.Author.Rules.{rules}
use Rattle.report_read.specs.Entry.{elements_of}
use Rattle.list_read.specs.Server.{in_addresses}
use Rattle.list_read.specs.Facts.{counted_of}
use Rattle.list_read.proofs.Items.{fuel, Addressed, addressed-less, addressed}
use Rattle.list_read.proofs.addresses.addresses_in.Given as goal

abbrev pub invariant-loop-at : goal.invariant-loop-at
invariant-loop-at l =
    Addressed l.s (counted_of l.s (elements_of l.s in_addresses l.v)) l.at l.n

abbrev pub decreases-loop-at : goal.decreases-loop-at
decreases-loop-at l = fuel l.s l.at
