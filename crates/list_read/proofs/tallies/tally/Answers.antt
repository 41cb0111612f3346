use borrow.Author.Rules.{rules}
use Rattle.list_read.proofs.Tallying.{going-first, going-low, going-few, going-stop, going_on, going_done, next-less}
use Rattle.list_read.proofs.tallies.tally.Goals as goal

pub loop-at-init : goal.loop-at-init
loop-at-init c = going-first c.first_item-at.ensures c.blank-t.ensures

pub returns-in_err-seen : goal.returns-in_err-seen
returns-in_err-seen c =
    rw c.from_residual.ensures (going-stop c.loop-at.invariant c.in-Some.is c.see.ensures c.in_err-seen.was)

pub counted-t-requires : goal.counted-t-requires
counted-t-requires c =
    let g = c.loop-at.invariant in let i = c.in-Some.is in let h = going-low g i in let m = going-few g i in (search rules, search rules)

pub loop-at-smaller : goal.loop-at-smaller
loop-at-smaller c = next-less c.args.s.now c.in-Some.is c.see.ensures c.in_ok-seen.was c.next_past-at.ensures

pub loop-at-preserved : goal.loop-at-preserved
loop-at-preserved c =
    going_on c.loop-at.invariant c.in-Some.is c.see.ensures c.in_ok-seen.was c.counted-t.ensures c.next_past-at.ensures

pub returns : goal.returns
returns c = going_done c.loop-at.invariant c.in_default.is
