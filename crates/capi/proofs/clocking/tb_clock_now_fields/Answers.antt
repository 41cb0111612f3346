-- `capi::clocking::tb_clock_now_fields` meets its contract.
use mathlib.Core.Path.{ap, ◌∙◌}
use mathlib.Core.List.{List}
use Rattle.clock.specs.Answer.{answer_of}
use Rattle.clock_spans.specs.declared.Kept.{Kept}
use Rattle.c_packets.specs.Clocking.{tb_time}
use borrow.Author.Rules.{rules}
use Rattle.capi.proofs.clocking.tb_clock_now_fields.Goals as goal

pub returns : goal.returns
returns c =
    let a = c.args in
    c.into.ensures
    ∙ ap tb_time c.time_at.ensures
    ∙ ap
    (λ (ws : List Kept). tb_time (answer_of (record { drift = a.drift; kept = ws }) a.moment a.liars)) c.rows-kept.ensures
