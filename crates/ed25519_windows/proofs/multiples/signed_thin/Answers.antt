-- `ed25519_windows::multiples::signed_thin` meets its contract.
use Rattle.ed25519_curve.specs.Coords.{whole_of}
use Rattle.ed25519_windows.proofs.Coordinates.{turned_on, turned-off}
use Rattle.ed25519_windows.proofs.multiples.signed_thin.Goals as goal

pub returns-then-off : goal.returns-then-off
returns-then-off c =
    let r = c.args.r in
    let s = c.opposite_thin in
    rw c.if-off.true
    (turned-off (whole_of r) (whole_of s.result) (s.ensures.even c.requires) s.ensures)

pub returns : goal.returns
returns c = rw c.if-off.false (turned_on _ c.requires)
