-- `pile_tally::passing::take_verdict` meets its contract.
use mathlib.Core.Path.{sym, ap, ◌∙◌}
use Rattle.pile_tally.specs.Kept.{tallied}
use Rattle.pile_tally.proofs.passing.take_verdict.Goals as goal

pub returns-in-Ok : goal.returns-in-Ok
returns-in-Ok c =
    c.take_window.ensures.value ∙ sym (ap (tallied c.args.tally) c.in-Ok.is)

pub returns-in-Err : goal.returns-in-Err
returns-in-Err c = sym (ap (tallied c.args.tally) c.in-Err.is)
