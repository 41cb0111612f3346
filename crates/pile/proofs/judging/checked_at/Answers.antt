-- `pile::judging::checked_at` meets its contract.
use Rattle.pile.proofs.judging.checked_at.Goals as goal

pub returns : goal.returns
returns c =
    rw (c.record_at-r.ensures, c.said_yes-signature.ensures, c.said_yes-delegation.ensures)
    at c.checked_on.ensures
