-- `capi::clocking::tb_clock_take_fields` meets its contract.
use mathlib.Core.Path.{◌≡◌, refl, sym, ap, ◌∙◌}
use mathlib.Core.List.{List}
use Rattle.std.specs.Prelude.{Err, Ok}
use Rattle.clock.specs.State.{taken_of}
use Rattle.clock.specs.declared.Clock.{Clock}
use Rattle.clock_spans.specs.declared.Kept.{Kept}
use Rattle.capi.specs.Clocking.{kept_of}
use borrow.Author.Rules.{rules}
use Rattle.capi.proofs.clocking.tb_clock_take_fields.Goals as goal

pub returns-in-Ok : goal.returns-in-Ok
returns-in-Ok c =
    let a = c.args in
    let w = kept_of a.window_low a.window_high a.window_maxt a.window_sent a.window_received in
    let crossed =
    ap (λ (ws : List Kept). taken_of (record { drift = a.drift; kept = ws }) a.server w) (sym c.rows-kept.ensures) in
    rw (crossed ∙ sym c.take.ensures ∙ c.in-Ok.is) (refl, c.from.ensures)

pub returns-in-Err : goal.returns-in-Err
returns-in-Err c =
    let a = c.args in
    let w = kept_of a.window_low a.window_high a.window_maxt a.window_sent a.window_received in
    let crossed =
    ap (λ (ws : List Kept). taken_of (record { drift = a.drift; kept = ws }) a.server w) (sym c.rows-kept.ensures) in
    rw (crossed ∙ sym c.take.ensures ∙ c.in-Err.is) (c.number.ensures, refl)
