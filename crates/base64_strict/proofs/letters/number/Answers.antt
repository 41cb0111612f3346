use native.Mathlib.Omega.{arith}
use Rattle.base64_strict.proofs.Tables.{letter-small, one-if, shifted-number}
use Rattle.base64_strict.proofs.letters.number.Goals as goal

pub returns : goal.returns
returns c =
    let e =
    shifted-number c.args.b (one-if _ c.from-low.ensures) (one-if _ c.from-slash.ensures)
    (one-if _ c.from-capital.ensures) (one-if _ c.from-small.ensures) (omega arith) c.requires in
    (e, omega (arith, e, letter-small c.args.b c.requires))
