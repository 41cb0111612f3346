-- `ed25519_sign::signing::sign` meets its contract.
use mathlib.Core.Path.{◌∙◌}
use mathlib.Core.List.{[]}
use native.Mathlib.Omega.{arith}
use Rattle.ed25519_sign.proofs.Steps.{parts_whole}
use Rattle.ed25519_sign.proofs.signing.sign.Goals as goal

pub returns : goal.returns
returns c =
    let g = c.args in
    c.sign_parts.ensures
    ∙ parts_whole g.seed [] g.text.now (omega (arith, c.well_formed.1.0.1))
