-- `pile_signed::judging::checked_at` meets its contract.
use native.Mathlib.Omega.{arith}
use Rattle.pile_signed.proofs.Own.{said-delegated, said-responded}
use Rattle.pile_signed.proofs.judging.checked_at.Goals as goal

pub returns : goal.returns
returns c =
    let p = c.args.pile.now in
    let k = c.args.k in
    rw (said-delegated p k (omega arith), said-responded p k (omega arith))
    (rw c.record_at-r.ensures at c.checked_on.ensures)
