use mathlib.Core.Path.{◌∙◌}
use borrow.Author.Rules.{rules}
use Rattle.report_read.specs.Entry.{elements_of}
use Rattle.list_read.specs.Server.{in_addresses}
use Rattle.list_read.specs.Facts.{counted_of}
use Rattle.list_read.proofs.Items.{fuel, Addressed, addressed-less, addressed}
use Rattle.list_read.proofs.addresses.addresses_in.Goals as goal

pub loop-at-init : goal.loop-at-init
loop-at-init c = search (addressed, rules)

pub returns : goal.returns
returns c = search (addressed, rules)

pub returns-in_err-seen : goal.returns-in_err-seen
returns-in_err-seen c = c.from_residual.ensures ∙ search (addressed, c.in_err-seen.was, rules)

pub overflow_add-n : goal.overflow_add-n
overflow_add-n c =
    let h = addressed-less c.loop-at.invariant
    c.in-Some.is in
    search rules

pub loop-at-smaller : goal.loop-at-smaller
loop-at-smaller c = search (addressed, c.in_ok-seen.was, rules)

pub loop-at-preserved : goal.loop-at-preserved
loop-at-preserved c = search (addressed, c.in_ok-seen.was, rules)
