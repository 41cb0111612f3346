-- `clock::telling::time_at` meets its contract.
use Rattle.std.specs.Prelude.{Ok}
use mathlib.Core.Path.{◌≡◌, refl, ap}
use Prim.Native.Nat.{◌-◌}
use Rattle.std.proofs.lemmas.Result.{err_from_is_err_and}
use Rattle.clock.proofs.AnswerLaws.{early, in-time}
use Rattle.clock.proofs.telling.time_at.Goals as goal

pub returns-then-is_too_early : goal.returns-then-is_too_early
returns-then-is_too_early c =
    early _ _ _ c.is_too_early.ensures c.if-is_too_early.true c.refuse.ensures

pub returns-in_err-agreed : goal.returns-in_err-agreed
returns-in_err-agreed c =
    let p = err_from_is_err_and c.from_residual.result c.from_residual.ensures.1 in
    let d : c.args.t - c.counting_at-counting.result ≡ c.args.t - c.counting_at-counting.result = refl in
    in-time c.args.clock c.args.t c.args.f c.is_too_early.ensures c.if-is_too_early.false c.counting_at-counting.ensures
    c.spans_of-spans.ensures c.in_err-agreed.ensures d (rw (p.1, p.2) refl)

pub returns : goal.returns
returns c =
    in-time c.args.clock c.args.t c.args.f c.is_too_early.ensures c.if-is_too_early.false c.counting_at-counting.ensures
    c.spans_of-spans.ensures c.in_ok-agreed.ensures c.saturating_sub.ensures (ap Ok c.time.ensures)
