-- `pile::judging::checked_on` meets its contract.
use Rattle.pile.proofs.Judges.{said-damaged, said-whole}
use Rattle.pile.proofs.Reaching.{lengths-fit}
use Rattle.pile.proofs.judging.checked_on.Goals as goal

pub returns-then-is_bad : goal.returns-then-is_bad
returns-then-is_bad c =
    said-damaged _ _ _ c.is_bad.ensures c.if-is_bad.true c.refused.ensures

pub request-requires : goal.request-requires
request-requires c =
    (lengths-fit _ c.is_bad.ensures c.if-is_bad.false).0

pub response-requires : goal.response-requires
response-requires c =
    (lengths-fit _ c.is_bad.ensures c.if-is_bad.false).1

pub returns : goal.returns
returns c =
    said-whole _ _ _ c.is_bad.ensures c.if-is_bad.false
    (rw (c.request.ensures, c.response.ensures) at c.check_response.ensures.value)
