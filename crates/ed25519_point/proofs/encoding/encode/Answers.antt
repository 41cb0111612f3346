-- `ed25519_point::encoding::encode` meets its contract.
use native.Mathlib.Omega.{arith}
use Rattle.ed25519_field.specs.Limbs.{num}
use Rattle.ed25519_field.proofs.Reducing.{num-lt}
use Rattle.ed25519_point.proofs.LastByte.{sign_fits, signed}
use Rattle.ed25519_point.proofs.encoding.encode.Goals as goal

pub overflow_add-out : goal.overflow_add-out
overflow_add-out c =
    let a = c.args in
    let h = sign_fits (num a.x) (num a.y) (num-lt a.y) in
    omega (arith, rw (← c.to_bytes-out.ensures, ← c.odd-sign.ensures) at h)

pub returns : goal.returns
returns c =
    let a = c.args in
    rw (c.to_bytes-out.ensures, c.odd-sign.ensures) (signed (num a.x) (num a.y) (num-lt a.y))
