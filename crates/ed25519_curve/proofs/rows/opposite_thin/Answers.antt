-- `ed25519_curve::rows::opposite_thin` meets its contract.
use mathlib.Core.Path.{refl}
use Rattle.ed25519_curve.proofs.Joining.{opposed}
use Rattle.ed25519_curve.proofs.rows.opposite_thin.Goals as goal

pub returns : goal.returns
returns c =
    opposed _ _ refl refl refl c.minus-scaled.ensures.0 c.minus-scaled.ensures.1
