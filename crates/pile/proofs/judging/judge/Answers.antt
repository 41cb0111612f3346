-- `pile::judging::judge` meets its contract.
use Rattle.pile.proofs.Wholes.{judged-there}
use Rattle.pile.proofs.Judges.{judge-nothing, judge-record}
use Rattle.pile.proofs.judging.judge.Goals as goal

pub returns-then-nothing_at : goal.returns-then-nothing_at
returns-then-nothing_at c =
    let both =
    judge-nothing _ _ _ c.nothing_at.ensures c.if-nothing_at.true c.refused.ensures
    c.judged.ensures in
    record { verdict_value = both.0; value = both.1 }

pub checked_at-requires : goal.checked_at-requires
checked_at-requires c =
    judged-there _ _ _ c.nothing_at.ensures c.if-nothing_at.false

pub returns : goal.returns
returns c =
    let both =
    judge-record _ _ _ c.nothing_at.ensures c.if-nothing_at.false c.checked_at.ensures
    c.judged-2.ensures in
    record { verdict_value = both.0; value = both.1 }
