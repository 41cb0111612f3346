-- `ed25519_windows::turns::twice` meets its contract.
use Rattle.ed25519_windows.proofs.Coordinates.{doubled-stands}
use Rattle.ed25519_windows.proofs.turns.twice.Goals as goal

pub returns : goal.returns
returns c =
    let d = c.doubled in
    record { loose = d.ensures.1; stands = λ a h. doubled-stands _ d.result a d.ensures.0 h }
