-- `old_stamp::reading::old_window` meets its contract.
use Rattle.std.specs.Prelude.{Err}
use mathlib.Core.Path.{ap}
use native.Mathlib.Omega.{arith}
use Rattle.old_stamp.proofs.AnswerLaws.{early-bad, late-bad, else-good, bad-answers, good-answers}
use Rattle.old_stamp.proofs.reading.old_window.Goals as goal

pub returns-then-date-lt-DAY_ZERO : goal.returns-then-date-lt-DAY_ZERO
returns-then-date-lt-DAY_ZERO c =
    let p = bad-answers c.args.stamp c.args.radi (early-bad _ (omega arith)) (ap Err c.refuse.ensures) in
    record { result_value = p.0; value = p.1 }

pub returns-then-micros-ge-LIMIT : goal.returns-then-micros-ge-LIMIT
returns-then-micros-ge-LIMIT c =
    let p =
    bad-answers c.args.stamp c.args.radi (late-bad _ (omega arith)) (ap Err c.refuse-then-micros-ge-LIMIT.ensures) in
    record { result_value = p.0; value = p.1 }

pub returns : goal.returns
returns c =
    let stamp = c.args.stamp in
    let good = else-good stamp (omega arith) (omega arith) in
    let p =
    good-answers stamp c.args.radi _ _ _ _ good c.low_end.ensures (omega arith) c.high_end.ensures (omega arith) in
    record { result_value = p.0; value = p.1 }
