-- `ed25519_base::turns::turned` meets its contract.
use Rattle.ed25519_windows.proofs.Coordinates.{doubled-stands, summed-stands, flat-for}
use Rattle.ed25519_base.proofs.turns.turned.Goals as goal

pub returns : goal.returns
returns c =
    let r = c.without_t.ensures in
    let j = c.summed_thin in
    let m = c.with_t-m in
    let d = c.doubled in
    record {
      good = r.1;
      stands =
          λ a b h f. flat-for _ j.result _ r.0 (summed-stands m.result _ j.result _ _
          (rw m.ensures.0 (doubled-stands _ d.result a d.ensures.0 h)) f j.ensures.0);
    }
