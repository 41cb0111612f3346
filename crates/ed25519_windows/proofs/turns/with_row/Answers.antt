-- `ed25519_windows::turns::with_row` meets its contract.
use Rattle.ed25519_windows.proofs.Coordinates.{summed-stands}
use Rattle.ed25519_windows.proofs.turns.with_row.Goals as goal

pub returns : goal.returns
returns c =
    let s = c.summed in
    let y = c.signed in
    let n = c.with_t in
    record {
      loose = s.ensures.1;
      stands =
          λ a b h f. summed-stands n.result y.result s.result a _ (rw n.ensures.0 h)
          (y.ensures.stands b f) s.ensures.0;
    }
