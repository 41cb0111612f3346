-- `ed25519_curve::finishing::with_t` meets its contract.
use Rattle.ed25519_curve.proofs.finishing.with_t.Goals as goal

pub returns : goal.returns
returns c =
    let t = c.mul-t.ensures in
    let z = c.mul-z.ensures in
    let y = c.mul-y.ensures in
    let x = c.mul-x.ensures in
    (rw (x.is, y.is, z.is, t.is), record { x = x.limbs; y = y.limbs; z = z.limbs; t = t.limbs })
