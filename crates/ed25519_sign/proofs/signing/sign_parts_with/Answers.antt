-- `ed25519_sign::signing::sign_parts_with` meets its contract.
use mathlib.Core.Path.{sym, ◌∙◌}
use native.Mathlib.Omega.{arith}
use Rattle.ed25519_sign.proofs.Steps.{too_long, parts_whole}
use Rattle.ed25519_sign.proofs.signing.sign_parts_with.Goals as goal

pub returns-then-value-context : goal.returns-then-value-context
returns-then-value-context c =
    let g = c.args in
    too_long g.seed g.context.now g.value.now (omega (arith, c.if-value-context.true))

pub returns : goal.returns
returns c =
    let g = c.args in
    c.signed.ensures
    ∙ sym (parts_whole g.seed g.context.now g.value.now (omega (arith, c.if-value-context.false)))
