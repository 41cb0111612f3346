-- `ed25519::verifying::verify` meets its contract.
use mathlib.Core.Path.{◌∙◌}
use mathlib.Core.List.{[]}
use native.Mathlib.Omega.{arith}
use Rattle.ed25519.proofs.Ways.{parts_whole}
use Rattle.ed25519.proofs.verifying.verify.Goals as goal

pub returns : goal.returns
returns c =
    let g = c.args in
    c.verify_parts.ensures
    ∙ parts_whole g.key.now [] g.text.now g.signature.now (omega (arith, c.well_formed.1.0.1))
