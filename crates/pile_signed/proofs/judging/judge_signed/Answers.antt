-- `pile_signed::judging::judge_signed` meets its contract.
use Rattle.pile.proofs.Wholes.{judged-there}
use Rattle.pile.proofs.Judges.{judge-nothing, judge-record}
use Rattle.pile_signed.proofs.judging.judge_signed.Goals as goal

pub returns-then-nothing_at : goal.returns-then-nothing_at
returns-then-nothing_at c =
    let said = judge-nothing _ _ _ c.nothing_at.ensures c.if-nothing_at.true c.refused.ensures c.judged.ensures in
    record { verdict_value = said.0; value = said.1 }

pub checked_at-requires : goal.checked_at-requires
checked_at-requires c =
    (judged-there _ _ _ c.nothing_at.ensures c.if-nothing_at.false).0

pub returns : goal.returns
returns c =
    let said =
    judge-record _ _ _ c.nothing_at.ensures c.if-nothing_at.false c.checked_at.ensures c.judged-2.ensures in
    record { verdict_value = said.0; value = said.1 }
