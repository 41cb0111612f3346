-- `ed25519_windows::turns::with_base` meets its contract.
use Rattle.ed25519_curve.specs.Coords.{whole_of}
use Rattle.ed25519_windows.proofs.Coordinates.{summed-stands}
use Rattle.ed25519_windows.proofs.Pairs.{no_digit, odd-digit}
use Rattle.ed25519_windows.proofs.turns.with_base.Goals as goal

pub returns-then-b-eq0 : goal.returns-then-b-eq0
returns-then-b-eq0 c =
    record { loose = c.requires.0; stands = λ a h. no_digit _ _ a _ c.if-b-eq0.true h }

pub returns : goal.returns
returns c =
    let s = c.summed_thin in
    let x = c.signed_thin in
    let n = c.with_t in
    let r = c.base_row-x in
    record {
      loose = s.ensures.1;
      stands =
          λ a h. summed-stands n.result (whole_of x.result) s.result a _ (rw n.ensures.0 h)
          (x.ensures.stands _ (odd-digit _ _ _ (c.requires.1 c.if-b-eq0.false) r.ensures.stands))
          s.ensures.0;
    }
