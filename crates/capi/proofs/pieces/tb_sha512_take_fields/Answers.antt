-- `capi::pieces::tb_sha512_take_fields` meets its contract.
use mathlib.Core.Path.{ap, ◌∙◌}
use Rattle.sha512.specs.State.{state_then, fed_number}
use Rattle.capi.specs.Pieces.{running_of}
use Rattle.capi.proofs.pieces.tb_sha512_take_fields.Goals as goal

pub returns-in-Ok : goal.returns-in-Ok
returns-in-Ok c =
    let g = c.args in
    let e = c.in-Ok.ensures in
    (ap fed_number e, ap (state_then (running_of g.h.now g.rest.now g.count.now)) e)

pub returns-in-Err : goal.returns-in-Err
returns-in-Err c =
    let g = c.args in
    let e = c.in-Err.ensures in
    (c.number.ensures ∙ ap fed_number e, ap (state_then (running_of g.h.now g.rest.now g.count.now)) e)
